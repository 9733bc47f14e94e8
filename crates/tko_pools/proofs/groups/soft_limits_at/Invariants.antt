use Rattle.std.proofs.Common.{◌≡◌, ◌++◌, drop, map}
use Rattle.serde_json.specs.View.{view}
use Rattle.tko_pools.specs.Configs.{soft_limits_at}
use Rattle.tko_pools.proofs.groups.soft_limits_at.Given as goal

-- the limits so far, and those of the places that are left
abbrev pub invariant-loop-place : goal.invariant-loop-place
invariant-loop-place l =
    l.limits.items
    ++ soft_limits_at (view l.pools) (map (λ name. name.now) l.names) (drop l.place-index l.places)
    ≡ soft_limits_at (view l.pools) (map (λ name. name.now) l.names) l.places
