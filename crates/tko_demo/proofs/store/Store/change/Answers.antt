use Rattle.std.proofs.Common.{rules}
use Rattle.tko_demo.proofs.StoreLemmas.{others_kept}
use Rattle.tko_demo.proofs.store.Store.change.Goals as goal

pub returns-in-Remove-clause-ok : goal.returns-in-Remove-clause-ok
returns-in-Remove-clause-ok c = record {
  there = search rules;
  others = λ other apart.
      others_kept (λ n. n.items) c.args.self.now.kept.entries c.remove.new.self.entries c.as_bytes.result.now c.args.key.now other
      (search rules) apart c.remove.ensures.updates.3;
  last = search rules;
}
