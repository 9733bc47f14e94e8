use Rattle.std.proofs.Common.{arith, length}
use Rattle.std.proofs.lemmas.Grind.{common_steps}
use Rattle.tko_metrics.specs.declared.reading.Shown.{Shown}
use Rattle.tko_metrics.specs.Readings.{IsOfWorkers}
use Rattle.tko_metrics.proofs.LoadLemmas.{all_more}
use Rattle.tko_metrics.proofs.reading.Shown.all.Goals as goal

pub loop-place-preserved : goal.loop-place-preserved
loop-place-preserved c = record {
  addresses = grind (arith, common_steps);
  readings = all_more (λ (server : Shown). IsOfWorkers (length c.args.shared.now.workers.items) server.reading)
      _ _ _ c.loop-place.invariant.readings c.in_ok-reading.ensures c.in_ok-push.ensures.items;
}
