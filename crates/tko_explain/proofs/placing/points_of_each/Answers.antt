use Rattle.tko_explain.proofs.PointLemmas.{points-more}
use Rattle.tko_explain.proofs.placing.points_of_each.Goals as goal

pub loop-place-preserved : goal.loop-place-preserved
loop-place-preserved c =
    points-more c.args.points.now c.loop-place.place _ _ _ c.loop-place.invariant c.points_at.ensures c.in_ok-push.ensures.items
