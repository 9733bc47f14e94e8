use Rattle.std.proofs.Common.{◌≡◌, map, take}
use Rattle.tko_metrics.proofs.times_reading.bounded.Given as goal

abbrev pub invariant-loop-place : goal.invariant-loop-place
invariant-loop-place l =
    (map (λ bucket. bucket.bound.now) l.buckets.items
    ≡ map (λ bound. bound.now) (take l.place l.bounds))
    × (map (λ bucket. bucket.count) l.buckets.items ≡ take l.place l.numbers)
