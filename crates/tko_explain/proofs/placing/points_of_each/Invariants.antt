use Rattle.std.proofs.Common.{◌≡◌, map}
use Rattle.std.specs.List.{range_with_len}
use Rattle.tko_explain.specs.Placing.{points_at}
use Rattle.tko_explain.proofs.placing.points_of_each.Given as goal

-- those of the servers so far
abbrev pub invariant-loop-place : goal.invariant-loop-place
invariant-loop-place l = l.counts.items ≡ map (points_at l.points) (range_with_len 0 l.place)
