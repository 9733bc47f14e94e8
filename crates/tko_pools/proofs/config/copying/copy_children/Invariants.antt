use Rattle.std.proofs.Common.{◌≡◌, ◌++◌, drop}
use Rattle.tko_pools.proofs.config.copying.copy_children.Given as goal

abbrev pub invariant-loop-child : goal.invariant-loop-child
invariant-loop-child l = l.copies.items ++ drop l.child-index l.children ≡ l.children
