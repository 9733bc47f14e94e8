use Rattle.std.proofs.Common.{◌≡◌, length}
use Rattle.tko_metrics.specs.Times.{bucket_count}
use Rattle.tko_metrics.proofs.times_reading.TimesSum.add.Given as goal

abbrev pub invariant-loop-place : goal.invariant-loop-place
invariant-loop-place l = length l.self.counts.items ≡ bucket_count
