use Rattle.tko_metrics.proofs.LoadLemmas.{parts_next}
use Rattle.tko_metrics.proofs.reading.ServerReading.of_workers.Goals as goal

pub loop-worker-preserved : goal.loop-worker-preserved
loop-worker-preserved c = rw c.in_ok-push.ensures.items (
    parts_next c.loop-worker.worker c.loop-worker.parts.items _ c.loop-worker.invariant c.of_worker.ensures)
