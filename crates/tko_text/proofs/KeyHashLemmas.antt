-- The flags of the keys that values had.
use Rattle.std.proofs.Common.{◌≡◌, ℕ, ◌<◌, ◌%◌, List, [], ◌∷◌, ◌++◌, length, get_or, set, Bool, true, false, ap, sym, ◌∙◌, subst, inl, inr}
use Rattle.std.specs.Prelude.{All}
use Rattle.std.specs.List.{list_any}
use Rattle.std.specs.Str.{bytes_eq}
use Rattle.std.proofs.lemmas.Bool.{both_ways, cases_eq, false_from_ne_true}
use Rattle.std.proofs.lemmas.List.{get_or-set_other, get_or-set_same, length-set}
use Rattle.std.proofs.lemmas.List.Elements.{All-push, All-weaker}
use Rattle.std.proofs.lemmas.List.Folds.{list_any_none}
use Rattle.std.proofs.lemmas.Slice.Eq.{bytes_eq-Decides}
use Rattle.tko_text.specs.declared.response.place.ValuePlace.{ValuePlace}
use Rattle.tko_text.specs.KeyHashes.{AreSeen, key_hash}

-- a key without its flag had no value
pub unseen : (seen : List Bool) (places : List ValuePlace) (key : List ℕ) → AreSeen seen places
    → get_or seen (key_hash key % length seen) false ≡ false
    → list_any (λ (place : ValuePlace). bytes_eq place.key key) places ≡ false
unseen seen places key are none =
    list_any_none (λ (place : ValuePlace). bytes_eq place.key key) places
    (λ k d below.
    let here = get_or places k d in
    false_from_ne_true (bytes_eq here.key key)
    (λ same. both_ways (get_or seen (key_hash key % length seen) false) none
    (ap (λ (xs : List ℕ). get_or seen (key_hash xs % length seen) false) (sym ((bytes_eq-Decides here.key key).0 same)) ∙ are.each k d below)))

-- a flag that is set stays so
flag_stays : (seen : List Bool) (flag other : ℕ) → flag < length seen → get_or seen other false ≡ true
    → get_or (set seen flag true) other false ≡ true
flag_stays seen flag other inside is = elim (cases_eq other flag) [
  | inl same ↦ ap (λ n. get_or (set seen flag true) n false) same ∙ get_or-set_same seen flag true false inside
  | inr differs ↦ get_or-set_other seen flag other true false differs ∙ is
]

-- one value more, and its flag
pub seen_more : (seen : List Bool) (places : List ValuePlace) (place : ValuePlace) (flag : ℕ) → AreSeen seen places
    → flag < length seen → flag ≡ key_hash place.key % length seen → AreSeen (set seen flag true) (places ++ place ∷ [])
seen_more seen places place flag are inside is =
    let same : length (set seen flag true) ≡ length seen = length-set seen flag true in
    let stays : All (λ (p : ValuePlace). get_or (set seen flag true) (key_hash p.key % length seen) false ≡ true) (places ++ place ∷ []) =
    All-push (λ (p : ValuePlace). get_or (set seen flag true) (key_hash p.key % length seen) false ≡ true) places place
    (All-weaker (λ (p : ValuePlace). get_or seen (key_hash p.key % length seen) false ≡ true)
    (λ (p : ValuePlace). get_or (set seen flag true) (key_hash p.key % length seen) false ≡ true)
    (λ p set_is. flag_stays seen flag (key_hash p.key % length seen) inside set_is) places are.each)
    (ap (λ n. get_or (set seen flag true) n false) (sym is) ∙ get_or-set_same seen flag true false inside) in
    record {
      some = subst (λ (n : ℕ). 0 < n) (sym same) are.some;
      each = subst (λ (n : ℕ). All (λ (p : ValuePlace). get_or (set seen flag true) (key_hash p.key % n) false ≡ true) (places ++ place ∷ [])) (sym same) stays;
    }
