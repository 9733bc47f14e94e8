-- The value of a key in a list, and the list without it.
use Rattle.std.proofs.Common.{◌≡◌, ◌≢◌, ℕ, zero, suc, ◌+◌, ◌<◌, List, [], ◌∷◌, ◌++◌, length, get_or, cond, Bool, true, false, refl, ap, sym, ◌∙◌, subst, inl, inr, arith, Some, None}
use Rattle.std.specs.Prelude.{All}
use Rattle.std.specs.List.{position, position_from, remove}
use Rattle.std.specs.Str.{bytes_eq}
use Rattle.std.proofs.lemmas.Bool.{cases_Bool, cond-true, cond-false, false_from_ne_true}
use Rattle.std.proofs.lemmas.Iterator.Adapters.{position_from-zero}
use Rattle.std.proofs.lemmas.List.{drop_at}
use Rattle.std.proofs.lemmas.List.Elements.{All-drop}
use Rattle.std.proofs.lemmas.List.Quantifiers.{position-Some}
use Rattle.std.proofs.lemmas.Slice.Eq.{bytes_eq-Decides}
use Rattle.tko_text.specs.declared.response.place.ValuePlace.{ValuePlace}
use Rattle.tko_text.specs.Places.{IsPlaceIn, value_at, values_in}
use Rattle.tko_text.specs.Responses.{value_for}

abbrev pub has_key : List ℕ → ValuePlace → Bool
has_key key place = bytes_eq place.key key

none_from : (text key : List ℕ) (from : ℕ) (places : List ValuePlace) → position_from (has_key key) from places ≡ None
    → value_for key (values_in text places) ≡ None
none_from text key from [] none = refl
none_from text key from (place ∷ places) none = elim (cases_Bool (has_key key place)) [
  | inl is ↦ let found : Some from ≡ None = sym (cond-true _ _ _ is) ∙ none in absurd (cc)
  | inr isnt ↦ cond-false _ _ _ isnt ∙ none_from text key (from + 1) places (sym (cond-false _ _ _ isnt) ∙ none)
]

-- no place has the key
pub none_of_key : (text key : List ℕ) (places : List ValuePlace) → None ≡ position (has_key key) places
    → None ≡ value_for key (values_in text places)
none_of_key text key places none =
    sym (none_from text key 0 places (sym (position_from-zero (has_key key) places) ∙ sym none))

first_of_key : (text key : List ℕ) (places : List ValuePlace) (index : ℕ) (place : ValuePlace) → index < length places
    → has_key key (get_or places index place) ≡ true → ((k : ℕ) → k < index → has_key key (get_or places k place) ≡ false)
    → value_for key (values_in text places) ≡ Some (value_at text (get_or places index place))
first_of_key text key [] index place below is before = absurd (omega (arith, below))
first_of_key text key (first ∷ places) zero place below is before = cond-true _ _ _ is
first_of_key text key (first ∷ places) (suc index) place below is before =
    cond-false _ _ _ (before 0 (omega arith))
    ∙ first_of_key text key places index place (omega (arith, below)) is (λ k less. before (suc k) (omega (arith, less)))

-- the value of the key is that at its first place
pub value_of_key : (text key : List ℕ) (places : List ValuePlace) (index : ℕ) (place : ValuePlace)
    → Some index ≡ position (has_key key) places → place ≡ get_or places index place
    → Some (value_at text place) ≡ value_for key (values_in text places)
value_of_key text key places index place found is =
    let at = position-Some (has_key key) places index place (sym found) in
    ap (λ p. Some (value_at text p)) is ∙ sym (first_of_key text key places index place at.0 at.1 at.2)

others_stay : (text key other : List ℕ) (places : List ValuePlace) (index : ℕ) (place : ValuePlace) → other ≢ key → index < length places
    → has_key key (get_or places index place) ≡ true
    → value_for other (values_in text (remove places index)) ≡ value_for other (values_in text places)
others_stay text key other [] index place differs below is = absurd (omega (arith, below))
others_stay text key other (first ∷ places) zero place differs below is =
    let isnt : bytes_eq first.key other ≡ false =
    false_from_ne_true (bytes_eq first.key other)
    (λ same. differs (sym ((bytes_eq-Decides first.key other).0 same) ∙ (bytes_eq-Decides first.key key).0 is)) in
    sym (cond-false _ _ _ isnt)
others_stay text key other (first ∷ places) (suc index) place differs below is =
    ap (λ found. cond (bytes_eq first.key other) (Some (value_at text first)) found)
    (others_stay text key other places index place differs (omega (arith, below)) is)

-- the values of other keys stay as they are
pub other_values : (text key other : List ℕ) (places left : List ValuePlace) (index : ℕ) (place : ValuePlace) → other ≢ key
    → Some index ≡ position (has_key key) places → left ≡ remove places index
    → value_for other (values_in text left) ≡ value_for other (values_in text places)
other_values text key other places left index place differs found is =
    let at = position-Some (has_key key) places index place (sym found) in
    ap (λ ps. value_for other (values_in text ps)) is ∙ others_stay text key other places index place differs at.0 at.1

-- what is at all places is at those behind some
pub all_behind : (text : List ℕ) (front back places : List ValuePlace) → front ++ back ≡ places → All (IsPlaceIn text) places
    → All (IsPlaceIn text) back
all_behind text front back places is are =
    subst (All (IsPlaceIn text)) (drop_at front back (length front) refl)
    (All-drop (IsPlaceIn text) (length front) (front ++ back) (subst (All (IsPlaceIn text)) (sym is) are))
