use Rattle.std.proofs.Common.{◌≡◌, drop, find}
use Rattle.tko_metrics.specs.Readings.{is_marked_reading}
use Rattle.tko_metrics.proofs.reading.first_marked.Given as goal

abbrev pub invariant-loop-part : goal.invariant-loop-part
invariant-loop-part l = find is_marked_reading (drop l.part-index l.parts) ≡ find is_marked_reading l.parts
