use Rattle.std.proofs.Common.{◌≡◌, ℕ, ◌++◌, drop, length}
use Rattle.tko_ring.specs.Points.{labels_of, points_from}
use Rattle.tko_ring.proofs.points.points_of.Given as goal

-- the points so far and those of the servers that are left are those of all
abbrev pub invariant-loop-place : goal.invariant-loop-place
invariant-loop-place l =
    let labels : ℕ → ℕ = λ weight. labels_of l.kind weight l.total (length l.servers) in
    l.drawing.points.items ++ points_from l.kind labels l.place (drop l.place l.servers)
    ≡ points_from l.kind labels 0 l.servers
