use Rattle.std.proofs.Common.{◌≡◌, map}
use Rattle.std.specs.List.{range_with_len}
use Rattle.tko_status.specs.Counts.{grown_at}
use Rattle.tko_status.proofs.counts.grown.Given as goal

abbrev pub invariant-loop-place : goal.invariant-loop-place
invariant-loop-place l =
    l.more.items ≡ map (grown_at l.counts l.before) (range_with_len 0 l.place)
