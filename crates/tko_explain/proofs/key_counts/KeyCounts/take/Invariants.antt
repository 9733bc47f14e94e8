use Rattle.std.proofs.Common.{◌++◌, ℕ, List, Option, length}
use Rattle.tko_explain.specs.KeyCounting.{IsCountedOver}
use Rattle.tko_explain.proofs.BegunLemmas.{IsTaken}
use Rattle.tko_explain.proofs.key_counts.KeyCounts.take.Given as goal

-- of the list with this piece the rest of the piece is left
abbrev pub invariant-loop-line : goal.invariant-loop-line
invariant-loop-line l =
    (json list : List ℕ) (against : Option (List ℕ))
    → IsCountedOver json against list l.initial.self
    → IsTaken json against (list ++ l.piece) l.rest l.self

abbrev pub decreases-loop-line : goal.decreases-loop-line
decreases-loop-line l = length l.rest
