use Rattle.std.proofs.Common.{◌≡◌, ◌<◌, ◌^◌, ◌++◌, All, drop, map, take}
use Rattle.tko_pools.specs.Children.{hash_by, targets_for}
use Rattle.tko_pools.proofs.targets.push_targets.Given as goal

-- the servers of the children so far, and then the hashes by those that are left
abbrev pub invariant-loop-place : goal.invariant-loop-place
invariant-loop-place l =
    (l.targets.items ≡ targets_for l.key (take l.place l.children)
    ++ map (λ child. hash_by child l.key) (drop l.place l.children))
    × All (λ hash. hash < 2 ^ 32) (map (λ child. hash_by child l.key) l.children)
