-- Lines: where the first one ends, and that there is one first line at most.
use Rattle.std.proofs.Common.{◌≡◌, ◌≢◌, ℕ, ◌-◌, ◌<◌, ◌≤◌, eqb, List, [], ◌∷◌, ◌++◌, length, get_or, refl, ap, sym, ◌∙◌, subst, inl, inr, arith, append_assoc, length-append}
use Rattle.std.specs.List.{AllByRecursion}
use Rattle.std.specs.Prelude.{codes}
use Rattle.std.proofs.lemmas.Bool.{cases_Bool, cond-true, cond-false}
use Rattle.std.proofs.lemmas.List.{get_or_append_left, get_or_at}
use Rattle.std.proofs.lemmas.List.Elements.{recursion_from_All, All-from_recursion, All-take}
use Rattle.tko_bytes.specs.Lines.{content, SplitsAtEnd}
use Rattle.tko_text.specs.ResponseLines.{IsLineText, IsOpenLine, IsSplitLine, IsOverlong, Split, SplitsLine, split_of}
use Rattle.tko_text.proofs.ResponseTextLemmas.{rest_is_text}

-- a line that isn't too long
pub line_found : (bytes before rest : List ℕ) (line : Split) → SplitsAtEnd bytes before rest
    → length before ≤ 65536 → line ≡ split_of (content before) → SplitsLine bytes line rest
line_found bytes before rest line split few holds = (
  before ++ 10 ∷ [],
  record {
    before = before;
    whole = refl;
    open_line = record { text = split.unended; few = few };
    holds = holds;
  },
  split.whole ∙ sym (append_assoc before (10 ∷ []) rest),
)

-- a line that is too long, with its LF
pub overlong_line : (bytes before rest : List ℕ) → SplitsAtEnd bytes before rest → 65536 < length before → IsOverlong bytes
overlong_line bytes before rest split many = record {
  text = λ k le e.
      let inside : k < length before = omega arith in
      split.unended k 0 inside
      (sym (get_or_append_left before (10 ∷ rest) 0 k inside) ∙ ap (λ xs. get_or xs k 0) (sym split.whole) ∙ e);
  many = omega (arith, ap length split.whole, length-append before (10 ∷ rest));
}

-- and without
pub overlong_front : (bytes : List ℕ) → IsLineText bytes → 65536 < length bytes → IsOverlong bytes
overlong_front bytes text many = record { text = λ k le e. text k 0 (omega arith) e; many = many }

-- two texts before the first LF of one list are one
text_cut : (p q x y : List ℕ) → AllByRecursion (λ b. b ≢ 10) p → AllByRecursion (λ b. b ≢ 10) q → p ++ 10 ∷ x ≡ q ++ 10 ∷ y → (p ≡ q) × (x ≡ y)
text_cut [] [] x y tp tq e = let tail : x ≡ y = cc in (refl, tail)
text_cut [] (b ∷ q) x y tp tq e = let head : 10 ≡ b = cc in absurd (tq.0 (sym head))
text_cut (a ∷ p) [] x y tp tq e = let head : a ≡ 10 = cc in absurd (tp.0 head)
text_cut (a ∷ p) (b ∷ q) x y tp tq e =
    let head : a ≡ b = cc in
    let tail : p ++ 10 ∷ x ≡ q ++ 10 ∷ y = cc in
    let rest = text_cut p q x y tp.1 tq.1 tail in
    (ap (λ k. k ∷ p) head ∙ ap (λ ys. b ∷ ys) rest.0, rest.1)

-- a list begins with one line at most
pub line_is_one : (a b : List ℕ) (s t : Split) (x y : List ℕ) → IsSplitLine a s → IsSplitLine b t → a ++ x ≡ b ++ y → (a ≡ b) × (s ≡ t) × (x ≡ y)
line_is_one a b s t x y la lb e =
    let left : a ++ x ≡ la.before ++ 10 ∷ x = ap (λ ys. ys ++ x) la.whole ∙ append_assoc la.before (10 ∷ []) x in
    let right : b ++ y ≡ lb.before ++ 10 ∷ y = ap (λ ys. ys ++ y) lb.whole ∙ append_assoc lb.before (10 ∷ []) y in
    let cut = text_cut la.before lb.before x y (recursion_from_All (λ b. b ≢ 10) _ la.open_line.text) (recursion_from_All (λ b. b ≢ 10) _ lb.open_line.text) (sym left ∙ e ∙ right) in (
      la.whole ∙ ap (λ ys. ys ++ 10 ∷ []) cut.0 ∙ sym lb.whole,
      la.holds ∙ ap (λ xs. split_of (content xs)) cut.0 ∙ sym lb.holds,
      cut.1,
    )

-- where the LF of a line stands
end_of_line : (xs a : List ℕ) (s : Split) (x : List ℕ) → (line : IsSplitLine a s) → xs ≡ a ++ x → (length line.before < length xs) × (get_or xs (length line.before) 0 ≡ 10)
end_of_line xs a s x line e =
    let is : xs ≡ line.before ++ 10 ∷ x = e ∙ ap (λ ys. ys ++ x) line.whole ∙ append_assoc line.before (10 ∷ []) x in (
      omega (arith, ap length is, length-append line.before (10 ∷ x)),
      ap (λ ys. get_or ys (length line.before) 0) is ∙ get_or_at line.before 10 x 0 (length line.before) refl,
    )

pub open_line_has_none : (xs a : List ℕ) (s : Split) (x : List ℕ) → IsOpenLine xs → IsSplitLine a s → xs ≡ a ++ x → ⊥
open_line_has_none xs a s x open_line line e =
    let end = end_of_line xs a s x line e in open_line.text (length line.before) 0 end.0 end.1

pub overlong_has_none : (xs a : List ℕ) (s : Split) (x : List ℕ) → IsOverlong xs → IsSplitLine a s → xs ≡ a ++ x → ⊥
overlong_has_none xs a s x overlong line e =
    let end = end_of_line xs a s x line e in overlong.text (length line.before) (omega (arith, line.open_line.few)) end.1

content_text : (xs : List ℕ) → IsLineText xs → IsLineText (content xs)
content_text xs text = elim (cases_Bool (eqb (get_or xs (length xs - 1) 0) 13)) [
  | inl e ↦ subst IsLineText (sym (cond-true _ _ _ e)) (All-take (λ b. b ≢ 10) (length xs - 1) xs text)
  | inr e ↦ subst IsLineText (sym (cond-false _ _ _ e)) text
]

-- what follows the first word of a line has no LF
pub arguments_are_text : (bytes : List ℕ) (line : Split) (rest : List ℕ) → SplitsLine bytes line rest → IsLineText line.rest
arguments_are_text bytes line rest split =
    let first = split.1 in
    subst IsLineText (sym (ap (λ (l : Split). l.rest) first.holds))
    (rest_is_text (content first.before) (content_text first.before first.open_line.text))

end_text : AllByRecursion (λ b. b ≢ 10) (codes "END\r")
end_text = (λ e. omega (arith, e), (λ e. omega (arith, e), (λ e. omega (arith, e), (λ e. omega (arith, e), tt))))

-- the line `END` as a server writes it
pub end_line : IsSplitLine (codes "END\r\n") (record { word = codes "END"; rest = [] })
end_line = record {
  before = codes "END\r";
  whole = refl;
  open_line = record { text = All-from_recursion (λ b. b ≢ 10) (codes "END\r") end_text; few = omega arith };
  holds = refl;
}
