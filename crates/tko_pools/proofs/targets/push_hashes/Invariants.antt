use Rattle.std.proofs.Common.{◌≡◌, ◌<◌, ◌^◌, All, map, take}
use Rattle.tko_pools.specs.Children.{hash_by}
use Rattle.tko_pools.proofs.targets.push_hashes.Given as goal

abbrev pub invariant-loop-place : goal.invariant-loop-place
invariant-loop-place l =
    (l.hashes.items ≡ map (λ child. hash_by child l.key) (take l.place l.children))
    × All (λ hash. hash < 2 ^ 32) l.hashes.items
