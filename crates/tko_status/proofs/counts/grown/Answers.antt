use Rattle.std.proofs.Common.{rules}
use Rattle.tko_metrics.proofs.LoadLemmas.{each-next}
use Rattle.tko_status.specs.Counts.{grown_at}
use Rattle.tko_status.proofs.counts.grown.Goals as goal

pub loop-place-preserved : goal.loop-place-preserved
loop-place-preserved c =
    each-next (grown_at c.args.counts.now c.args.before.now) c.loop-place.place _ _ _
    c.loop-place.invariant (search rules) c.in_ok-push.ensures.items
