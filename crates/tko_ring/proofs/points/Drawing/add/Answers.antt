use Rattle.std.proofs.Common.{◌∙◌}
use Rattle.tko_ring.proofs.PointLemmas.{points_none, points_pushed}
use Rattle.tko_ring.proofs.points.Drawing.add.Goals as goal

pub loop-number-init : goal.loop-number-init
loop-number-init c = points_none c.args.kind c.args.name.now c.args.place c.args.self.now.points.items

pub loop-number-preserved : goal.loop-number-preserved
loop-number-preserved c =
    points_pushed c.args.kind c.args.name.now c.deref.result.now c.args.place c.loop-number.number
    c.args.self.now.points.items c.loop-number.self.points.items c.push_points.new.points.items
    (c.deref.ensures.value ∙ c.in_ok-write_label.ensures) c.loop-number.invariant c.in_ok-push_points.ensures
