use Rattle.std.proofs.Common.{◌≡◌, ◌++◌, ℕ, List, codes}
use Rattle.std.specs.Fmt.{decimal}
use Rattle.tko_text.proofs.response.shared.before_word.Given as goal

-- with what comes before a space and the digits that are left, the bytes end with the number
abbrev pub invariant-loop-left : goal.invariant-loop-left
invariant-loop-left l = record {
  ends : (front : List ℕ) → l.rest ≡ front ++ (codes " " ++ decimal l.left)
      → l.fn.bytes ≡ front ++ (codes " " ++ decimal l.fn.number);
}

abbrev pub decreases-loop-left : goal.decreases-loop-left
decreases-loop-left l = l.left
