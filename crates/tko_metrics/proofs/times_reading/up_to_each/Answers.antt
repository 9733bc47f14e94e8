use Rattle.tko_metrics.specs.Times.{at_most}
use Rattle.tko_metrics.proofs.LoadLemmas.{each-next}
use Rattle.tko_metrics.proofs.times_reading.up_to_each.Goals as goal

pub loop-place-preserved : goal.loop-place-preserved
loop-place-preserved c =
    each-next (at_most c.args.counts.now) c.loop-place.place _ _ _ c.loop-place.invariant c.total.ensures c.in_ok-push.ensures.items
