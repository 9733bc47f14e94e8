use Rattle.std.proofs.Common.{refl}
use Rattle.tko_metrics.proofs.LoadLemmas.{workers_next}
use Rattle.tko_metrics.proofs.workers.WorkerReading.all.Goals as goal

pub loop-worker-preserved : goal.loop-worker-preserved
loop-worker-preserved c = rw c.in_ok-push.ensures.items (
    workers_next c.loop-worker.worker c.loop-worker.workers.items _ c.loop-worker.invariant refl)
