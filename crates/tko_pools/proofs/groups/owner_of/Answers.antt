use Rattle.std.proofs.Common.{rules, sym}
use Rattle.tko_pools.proofs.GroupLemmas.{owner-of-lists}
use Rattle.tko_pools.proofs.groups.owner_of.Goals as goal

pub returns : goal.returns
returns c = rw (sym (owner-of-lists (λ child. child.servers) c.args.children.now c.args.server)) (search rules)
