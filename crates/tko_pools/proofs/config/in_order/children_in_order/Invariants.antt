use Rattle.std.proofs.Common.{◌≡◌, map}
use Rattle.tko_pools.specs.Configs.{alone, numbers_below}
use Rattle.tko_pools.proofs.config.in_order.children_in_order.Given as goal

-- the children so far
abbrev pub invariant-loop-number : goal.invariant-loop-number
invariant-loop-number l = l.children.items ≡ map alone (numbers_below l.number)
