use Rattle.std.proofs.Common.{rules}
use Rattle.tko_demo.proofs.StoreLemmas.{others_kept}
use Rattle.tko_demo.proofs.store.Store.put.Goals as goal

pub returns-in-Ok-clause-ok : goal.returns-in-Ok-clause-ok
returns-in-Ok-clause-ok c = record {
  there = search rules;
  others = λ other apart.
      others_kept (λ n. n.items) c.args.self.now.kept.entries c.insert.new.self.entries c.in_ok-name.name.items c.args.key.now other
      (search rules) apart c.in-Ok.ensures.updates.3;
  last = search rules;
}
