use Rattle.std.proofs.Common.{◌≡◌, ◌+◌, ℕ, slice_get, slice_index, take}
use Rattle.tko_explain.specs.Counts.{one_where}
use Rattle.tko_explain.specs.Moves.{is_moved_to}
use Rattle.tko_explain.proofs.moves.count_each_move.Given as goal

-- the children so far were counted where the key moved
abbrev pub invariant-loop-place : goal.invariant-loop-place
invariant-loop-place l =
    (place : ℕ) → slice_index l.moved place ≡ slice_index l.initial.moved place
    + one_where (is_moved_to l.config.addresses l.targets place l.other.addresses l.there
    (slice_get (take l.place l.twins) place))
