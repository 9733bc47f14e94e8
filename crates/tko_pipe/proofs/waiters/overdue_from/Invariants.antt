use Rattle.std.proofs.Common.{ℕ, ◌≤◌, ◌<◌}
use Rattle.tko_pipe.specs.Giving.{IsDueAlone}
use Rattle.tko_pipe.proofs.waiters.overdue_from.Given as goal

abbrev pub invariant-loop-place : goal.invariant-loop-place
invariant-loop-place l =
    (l.from ≤ l.place) × ((k : ℕ) → l.from ≤ k → k < l.place
    → IsDueAlone l.waiters.items l.now k → ⊥)
