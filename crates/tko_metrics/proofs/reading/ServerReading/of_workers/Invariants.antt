use Rattle.tko_metrics.specs.Readings.{AreOfWorkers}
use Rattle.tko_metrics.proofs.reading.ServerReading.of_workers.Given as goal

abbrev pub invariant-loop-worker : goal.invariant-loop-worker
invariant-loop-worker l = AreOfWorkers l.worker l.parts.items
