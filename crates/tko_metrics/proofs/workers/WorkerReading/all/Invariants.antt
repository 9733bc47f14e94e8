use Rattle.tko_metrics.specs.Loads.{AreWorkers}
use Rattle.tko_metrics.proofs.workers.WorkerReading.all.Given as goal

abbrev pub invariant-loop-worker : goal.invariant-loop-worker
invariant-loop-worker l = AreWorkers l.worker l.workers.items
