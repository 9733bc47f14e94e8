use Rattle.std.proofs.Common.{◌≡◌, ◌≤◌, ◌+◌, drop}
use Rattle.tko_explain.specs.Placing.{points_at}
use Rattle.tko_explain.proofs.placing.points_at.Given as goal

-- those so far and those that are left are all; each point is counted once at most
abbrev pub invariant-loop-point : goal.invariant-loop-point
invariant-loop-point l =
    (l.count + points_at (drop l.point-index l.points) l.place ≡ points_at l.points l.place)
    × (l.count ≤ l.point-index)
