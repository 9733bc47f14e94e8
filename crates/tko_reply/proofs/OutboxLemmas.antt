-- Texts at the end of the outbox.
use Rattle.std.proofs.Common.{◌≡◌, ℕ, List, [], ◌++◌, Bool, true, false, take, drop, sym, ap, ◌∙◌}
use Rattle.std.proofs.Common.{append_assoc, append-nil}
use Rattle.std.specs.Prelude.{MatchBool}
use Rattle.std.proofs.lemmas.List.{take-append-drop}
use Rattle.tko_reply.specs.Answering.{Extends}

-- the bytes behind the first so many are more of them
pub extends_front : (n : ℕ) (xs : List ℕ) → Extends (take n xs) xs
extends_front n xs = record { more = drop n xs; is = sym (take-append-drop n xs) }

pub extends_front_by : (n : ℕ) (xs ys more : List ℕ) → ys ≡ xs ++ more → Extends (take n xs) ys
extends_front_by n xs ys more is = record {
  more = drop n xs ++ more;
  is =
      is ∙ ap (λ zs. zs ++ more) (sym (take-append-drop n xs))
      ∙ append_assoc (take n xs) (drop n xs) more;
}

pub extends_same : (xs : List ℕ) → Extends xs xs
extends_same xs = record { more = []; is = sym (append-nil xs) }

pub extends_by : {xs ys : List ℕ} (more : List ℕ) → ys ≡ xs ++ more → Extends xs ys
extends_by more is = record { more = more; is = is }

-- after the values of a response, or its whole text in the place of those before
pub extends_next : (listed : Bool) (n : ℕ) (xs ys values text : List ℕ)
    → MatchBool listed (ys ≡ xs ++ values) (ys ≡ take n xs ++ text)
    → Extends (take n xs) ys
extends_next true n xs ys values text is = extends_front_by n xs ys values is
extends_next false n xs ys values text is = extends_by text is
