use Rattle.std.proofs.Common.{◌≡◌, ◌++◌, map}
use Rattle.tko_ring.specs.Points.{point_at, point_values}
use Rattle.tko_ring.proofs.points.Drawing.add.Given as goal

-- the points of the labels so far
abbrev pub invariant-loop-number : goal.invariant-loop-number
invariant-loop-number l =
    l.self.points.items ≡ l.fn.self.points.items ++ map (point_at l.place) (point_values l.kind l.name l.number)
