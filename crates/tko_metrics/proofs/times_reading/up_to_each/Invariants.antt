use Rattle.std.proofs.Common.{◌≡◌, map}
use Rattle.std.specs.List.{range_with_len}
use Rattle.tko_metrics.specs.Times.{at_most}
use Rattle.tko_metrics.proofs.times_reading.up_to_each.Given as goal

abbrev pub invariant-loop-place : goal.invariant-loop-place
invariant-loop-place l = l.numbers.items ≡ map (at_most l.counts) (range_with_len 0 l.place)
