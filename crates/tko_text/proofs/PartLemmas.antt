-- A part of a text, with what comes right before and right after it.
use Rattle.std.proofs.Common.{◌≡◌, ◌≢◌, ℕ, ◌+◌, ◌-◌, ◌≤◌, Bor, MatchOption, Option, Some, None, true, List, ◌++◌, length, take, drop, ap, subst, sym, ◌∙◌, arith, append_assoc, refl}
use Rattle.std.specs.Prelude.{is_some, slice_range}
use Rattle.std.proofs.lemmas.List.{drop-append-le, drop-take, length-take-le, take-append-drop, take_at}
use Rattle.bytes.proofs.Ranges.{take-append_past}

-- the beginning of a text in two
take_split : (n m : ℕ) (text : List ℕ) → n ≤ length text
    → take (n + m) text ≡ take n text ++ take m (drop n text)
take_split n m text within =
    let len : n + m ≡ length (take n text) + m =
    ap (λ k. k + m) (sym (length-take-le n text within)) in
    subst (λ whole. take (n + m) whole ≡ take n text ++ take m (drop n text))
    (take-append-drop n text) (take-append_past (take n text) (drop n text) m (n + m) len)

module _ (text back rest : List ℕ) (begin size : ℕ) (within : begin + size ≤ length text)
    (after : drop (begin + size) text ≡ back ++ rest) where
  abbrev front : List ℕ
  front = take begin text

  abbrev part : List ℕ
  part = take size (drop begin text)

  -- the text up to what comes right after a part
  up_to : take (begin + size + length back) text ≡ (front ++ part) ++ back
  up_to =
      take_split (begin + size) (length back) text within
      ∙ ap (λ xs. xs ++ take (length back) (drop (begin + size) text))
      (take_split begin size text (omega (arith, within)))
      ∙ ap (λ xs. (front ++ part) ++ take (length back) xs) after
      ∙ ap (λ xs. (front ++ part) ++ xs) (take_at back rest (length back) refl)

  -- the same from a place before the part on
  pub around : (from : ℕ) → from ≤ begin
      → slice_range text from (begin + size + length back)
      ≡ drop from (take begin text) ++ take size (drop begin text) ++ back
  around from early =
      let end = begin + size + length back in
      let len = length-take-le begin text (omega (arith, within)) in
      let same : from + (end - from) ≡ end = omega (arith, early) in
      sym (drop-take from (end - from) text) ∙ ap (λ n. drop from (take n text)) same
      ∙ ap (drop from) (up_to ∙ append_assoc front part back)
      ∙ drop-append-le from front (part ++ back) (omega (arith, early, len))
      ∙ sym (append_assoc (drop from front) part back)

-- a text that a prefix was taken off begins with it
pub begins : (text front : List ℕ) (found : Option (Bor (List ℕ)))
    → MatchOption found ((rest : List ℕ) → text ≢ front ++ rest)
    (λ rest. text ≡ front ++ rest.now) → is_some found ≡ true
    → (rest : List ℕ) × (text ≡ front ++ rest)
begins text front None not_found is = absurd (let no : ⊥ = cc in no)
begins text front (Some rest) whole is = (rest.now, whole)
