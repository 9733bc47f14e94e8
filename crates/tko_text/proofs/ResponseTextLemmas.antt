-- What follows the first word of a line has no LF where the line has none.
use Rattle.std.proofs.Common.{ℕ, ◌≢◌, eqb, List, [], ◌∷◌, sym, subst, inl, inr}
use Rattle.std.specs.List.{AllByRecursion}
use Rattle.std.proofs.lemmas.Bool.{cases_Bool, cond-true, cond-false}
use Rattle.std.proofs.lemmas.List.Elements.{recursion_from_All, All-from_recursion}
use Rattle.tko_bytes.specs.Words.{unspaced, after_word}
use Rattle.tko_text.specs.ResponseLines.{IsLineText, split_of}

unspaced_text : (xs : List ℕ) → AllByRecursion (λ b. b ≢ 10) xs → AllByRecursion (λ b. b ≢ 10) (unspaced xs)
unspaced_text [] text = tt
unspaced_text (b ∷ bs) text = elim (cases_Bool (eqb b 32)) [
  | inl e ↦ subst (AllByRecursion (λ k. k ≢ 10)) (sym (cond-true _ _ _ e)) (unspaced_text bs text.1)
  | inr e ↦ subst (AllByRecursion (λ k. k ≢ 10)) (sym (cond-false _ _ _ e)) text
]

behind_text : (xs : List ℕ) → AllByRecursion (λ b. b ≢ 10) xs → AllByRecursion (λ b. b ≢ 10) (after_word xs)
behind_text [] text = tt
behind_text (b ∷ bs) text = elim (cases_Bool (eqb b 32)) [
  | inl e ↦ subst (AllByRecursion (λ k. k ≢ 10)) (sym (cond-true _ _ _ e)) text
  | inr e ↦ subst (AllByRecursion (λ k. k ≢ 10)) (sym (cond-false _ _ _ e)) (behind_text bs text.1)
]

pub rest_is_text : (line : List ℕ) → IsLineText line → IsLineText (split_of line).rest
rest_is_text line text =
    All-from_recursion (λ b. b ≢ 10) _
    (behind_text (unspaced line) (unspaced_text line (recursion_from_All (λ b. b ≢ 10) line text)))
