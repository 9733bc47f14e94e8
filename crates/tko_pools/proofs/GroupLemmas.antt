-- The children that own servers, as they are found.
use Rattle.std.proofs.Common.{◌≡◌, ◌<◌, ◌≤◌, ℕ, zero, suc, ◌+◌, Bool, true, false, cond, List, [], ◌∷◌, ◌++◌, length, map, refl, ap, sym, arith, inl, inr, ◌||◌}
use Rattle.std.specs.Prelude.{◌==◌, unwrap_or}
use Rattle.std.specs.List.{filter, position, range_with_len}
use Rattle.std.proofs.lemmas.Bool.{cases_Bool, eqb-true, ne_eqb}
use Rattle.std.proofs.lemmas.List.{append-nil, length-map, map-id}
use Rattle.std.proofs.lemmas.List.FromFn.{map-range_with_len_more, filter_of_map_range_with_len_more, length-range_with_len}
use Rattle.tko_pools.specs.Groups.{first_child_with, is_number_in, owners_of, owning}
use Rattle.tko_pools.proofs.NumberingLemmas.{position_map}

-- the place of the first child, where its lists are those of values
pub owner-of-lists : {X : Type 0} (items : X → List ℕ) (children : List X) (server : ℕ)
    → unwrap_or (position (λ child. is_number_in (items child) server) children) (length children)
    ≡ first_child_with (map items children) server
owner-of-lists items children server =
    rw (position_map (λ child. is_number_in child server) items children, length-map children items) refl

-- the owners of one more server
pub owners-more : (children : List (List ℕ)) (servers : ℕ) (owners all : List ℕ) (owner : ℕ)
    → owners ≡ owners_of children servers → owner ≡ first_child_with children servers
    → all ≡ owners ++ owner ∷ [] → all ≡ owners_of children (servers + 1)
owners-more children servers owners all owner before last e =
    let more = map-range_with_len_more (first_child_with children) 0 servers servers (omega arith) in
    rw (e, before, last) (sym more)

-- the owners among one more place
places-more : (owners : List ℕ) (place : ℕ)
    → owning owners (place + 1) ≡ owning owners place ++ cond (is_number_in owners place) (place ∷ []) []
places-more owners place =
    let more = filter_of_map_range_with_len_more (is_number_in owners) (λ i. i) 0 place place (omega arith) in
    rw (map-id (range_with_len 0 (place + 1)), map-id (range_with_len 0 place)) at more

pub one-more-place : (owners : List ℕ) (place : ℕ) (places all : List ℕ)
    → places ≡ owning owners place → is_number_in owners place ≡ true → all ≡ places ++ place ∷ []
    → all ≡ owning owners (place + 1)
one-more-place owners place places all before owns e =
    rw (e, before, places-more owners place, owns) refl

pub no-more-place : (owners : List ℕ) (place : ℕ) (places all : List ℕ)
    → places ≡ owning owners place → is_number_in owners place ≡ false → all ≡ places
    → all ≡ owning owners (place + 1)
no-more-place owners place places all before owns e =
    rw (e, before, places-more owners place, owns) (sym (append-nil (owning owners place)))

-- There are not more of them than servers.

either : (p q : ℕ → Bool) (xs : List ℕ)
    → length (filter (λ x. p x || q x) xs) ≤ length (filter p xs) + length (filter q xs)
either p q [] = omega arith
either p q (x ∷ xs) =
    let rest = either p q xs in
    elim (cases_Bool (p x)) [
      | inl yes_p ↦ elim (cases_Bool (q x)) [
        | inl yes_q ↦ rw (yes_p, yes_q) (omega (arith, rest))
        | inr no_q ↦ rw (yes_p, no_q) (omega (arith, rest))
      ]
      | inr no_p ↦ elim (cases_Bool (q x)) [
        | inl yes_q ↦ rw (no_p, yes_q) (omega (arith, rest))
        | inr no_q ↦ rw (no_p, no_q) rest
      ]
    ]

-- a number below a range is not in it
none-below : (owner first count : ℕ) → owner < first
    → length (filter (λ place. owner == place) (range_with_len first count)) ≡ 0
none-below owner first zero below = refl
none-below owner first (suc count) below =
    let other : (owner == first) ≡ false = ne_eqb owner first (λ same. omega (arith, below, same)) in
    rw other (none-below owner (first + 1) count (omega (arith, below)))

-- a number is in a range once at most
once : (owner first count : ℕ)
    → length (filter (λ place. owner == place) (range_with_len first count)) ≤ 1
once owner first zero = omega arith
once owner first (suc count) =
    elim (cases_Bool (owner == first)) [
      | inl same ↦
          let at = eqb-true owner first same in
          let rest = none-below owner (first + 1) count (omega (arith, at)) in
          rw same (omega (arith, rest))
      | inr other ↦ rw other (once owner (first + 1) count)
    ]

nothing-owns : (places : List ℕ) → length (filter (is_number_in []) places) ≡ 0
nothing-owns [] = refl
nothing-owns (place ∷ places) = nothing-owns places

pub few-places : (owners : List ℕ) (children : ℕ) → length (owning owners children) ≤ length owners
few-places [] children =
    let none = nothing-owns (range_with_len 0 children) in omega (arith, none)
few-places (owner ∷ owners) children =
    let places = range_with_len 0 children in
    let both = either (λ place. owner == place) (is_number_in owners) places in
    let here = once owner 0 children in
    let later = few-places owners children in
    omega (arith, both, here, later)

-- as many owners as servers
pub length-owners : (children : List (List ℕ)) (servers : ℕ) → length (owners_of children servers) ≡ servers
length-owners children servers =
    rw (length-map (range_with_len 0 servers) (first_child_with children), length-range_with_len 0 servers) refl

pub few-owned : (children : List (List ℕ)) (servers count most : ℕ) (owners places : List ℕ)
    → owners ≡ owners_of children servers → places ≡ owning owners count → servers ≤ most
    → length places ≤ most
few-owned children servers count most owners places owners_so places_so within =
    let few = few-places owners count in
    let owned : length owners ≡ servers = rw owners_so (length-owners children servers) in
    let same = ap length places_so in
    omega (arith, few, owned, same, within)
