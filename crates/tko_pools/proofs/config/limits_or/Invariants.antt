use Rattle.std.proofs.Common.{◌≡◌, ◌++◌, drop, map}
use Rattle.std.specs.Prelude.{unwrap_or}
use Rattle.tko_pools.proofs.config.limits_or.Given as goal

-- the limits so far, and then those that are left, are all limits
abbrev pub invariant-loop-limit : goal.invariant-loop-limit
invariant-loop-limit l =
    l.numbers.items ++ map (λ limit. unwrap_or limit l.default) (drop l.limit-index l.limits)
    ≡ map (λ limit. unwrap_or limit l.default) l.limits
