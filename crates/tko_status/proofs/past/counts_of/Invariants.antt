use Rattle.std.proofs.Common.{◌≡◌, map, take}
use Rattle.tko_status.proofs.past.counts_of.Given as goal

abbrev pub invariant-loop-bucket : goal.invariant-loop-bucket
invariant-loop-bucket l =
    l.counts.items ≡ map (λ bucket. bucket.count) (take l.bucket-index l.buckets)
