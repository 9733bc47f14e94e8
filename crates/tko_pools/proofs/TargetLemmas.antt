-- Laws of a list in which the results of one function take the places of those of another.
use Rattle.std.proofs.Common.{arith, ◌≡◌, ◌<◌, ℕ, zero, suc, All, List, [], ◌∷◌, ◌++◌, ◌+◌, length, map, refl, ap, sym, subst, ◌∙◌, drop, take, get_or, add-one, slice_set}
use Rattle.std.proofs.lemmas.List.{get_or-map, length-map}
use Rattle.std.proofs.lemmas.List.Elements.{All-get_or}

found : {X : Type 0} (made was : X → ℕ) (items : List X) (i : ℕ) (d : X) (e : ℕ) → i < length items
    → get_or (map made (take i items) ++ map was (drop i items)) i e ≡ was (get_or items i d)
found made was [] i d e within = omega (arith, within)
found made was (item ∷ items) zero d e within = refl
found made was (item ∷ items) (suc i) d e within = found made was items i d e (omega (arith, within))

turned : {X : Type 0} (made was : X → ℕ) (items : List X) (i : ℕ) (d : X) → i < length items
    → slice_set (map made (take i items) ++ map was (drop i items)) i (made (get_or items i d))
    ≡ map made (take (suc i) items) ++ map was (drop (suc i) items)
turned made was [] i d within = absurd (omega (arith, within))
turned made was (item ∷ items) zero d within = refl
turned made was (item ∷ items) (suc i) d within =
    ap (λ rest. made item ∷ rest) (turned made was items i d (omega (arith, within)))

-- in the next place is what the other function made of its item
pub next_was : {X : Type 0} (made was : X → ℕ) (items : List X) (i : ℕ) (item : X) (e : ℕ) → i < length items
    → item ≡ get_or items i item
    → get_or (map made (take i items) ++ map was (drop i items)) i e ≡ was item
next_was made was items i item e within is = found made was items i item e within ∙ ap was (sym is)

-- and it is below what all these are
pub next_below : {X : Type 0} (made was : X → ℕ) (items : List X) (i : ℕ) (d : X) (e bound : ℕ) → i < length items
    → All (λ n. n < bound) (map was items)
    → get_or (map made (take i items) ++ map was (drop i items)) i e < bound
next_below made was items i d e bound within all =
    subst (λ n. n < bound) (get_or-map was items i d e within ∙ sym (found made was items i d e within))
    (All-get_or (λ n. n < bound) (map was items) i e (omega (arith, within, length-map items was)) all)

-- the next place gets its result
pub next_made : {X : Type 0} (made was : X → ℕ) (items : List X) (i : ℕ) (item : X) → i < length items
    → item ≡ get_or items i item
    → slice_set (map made (take i items) ++ map was (drop i items)) i (made item)
    ≡ map made (take (i + 1) items) ++ map was (drop (i + 1) items)
next_made made was items i item within is =
    ap (λ x. slice_set (map made (take i items) ++ map was (drop i items)) i (made x)) is
    ∙ rw (add-one i) (turned made was items i item within)
