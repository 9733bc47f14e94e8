-- Each server has a group: the place of its owner among the children that own a server.
use Rattle.std.proofs.Common.{◌≡◌, ◌<◌, ◌≤◌, ℕ, zero, suc, ◌+◌, Bool, true, List, [], ◌∷◌, length, refl, sym, subst, arith, inl, inr, ◌||◌}
use Rattle.std.specs.Prelude.{◌==◌}
use Rattle.std.specs.List.{All, filter, list_any, position_or_len, range_with_len}
use Rattle.std.proofs.lemmas.Bool.{cases_Bool, eqb-false, eqb-true, lt-ltb}
use Rattle.std.proofs.lemmas.List.Elements.{All-nil, All-cons, All-head, All-tail, All-map, All-weaker}
use Rattle.std.proofs.Math.Nat.{zero-lt-suc}
use Rattle.tko_pools.specs.Groups.{first_child_with, first_place, groups_of, is_number_in, owners_of, owning}
use Rattle.tko_pools.proofs.HeldLemmas.{all-in, is_held}

-- an item that passes has a place
place-below : {T : Type 0} (test : T → Bool) (items : List T) → list_any test items ≡ true
    → position_or_len test items < length items
place-below test [] some = cc
place-below test (item ∷ items) some =
    elim (cases_Bool (test item)) [
      | inl passes ↦ rw passes (zero-lt-suc (length items))
      | inr not_it ↦
          let P : Bool → Type 0 = λ b. (b || list_any test items) ≡ true in
          let later = place-below test items (subst P not_it some) in
          rw not_it (omega (arith, later))
    ]

first-below : {T : Type 0} (test : T → Bool) (items : List T) → list_any test items ≡ true
    → first_place test items < length items
first-below test items some =
    let below = place-below test items some in
    let found = lt-ltb (position_or_len test items) (length items) below in
    rw found below

-- an owner within a range is among those of the range
among-owning : (test : ℕ → Bool) (owner first count : ℕ) → test owner ≡ true → first ≤ owner → owner < first + count
    → list_any (λ place. place == owner) (filter test (range_with_len first count)) ≡ true
among-owning test owner first zero passes low high = absurd (omega (arith, low, high))
among-owning test owner first (suc count) passes low high =
    elim (cases_Bool (first == owner)) [
      | inl same ↦
          let at = eqb-true first owner same in
          let here : test first ≡ true = rw at passes in
          rw (here, same) refl
      | inr other ↦
          let apart = eqb-false first owner other in
          let above : first + 1 ≤ owner = omega (arith, low, apart) in
          let rest = among-owning test owner (first + 1) count passes above (omega (arith, high)) in
          elim (cases_Bool (test first)) [
            | inl yes_it ↦ rw (yes_it, other) rest
            | inr no_it ↦ rw no_it rest
          ]
    ]

all-both : {X : Type 0} (P Q R : X → Type 0) → ((x : X) → P x → Q x → R x) → (xs : List X) → All P xs → All Q xs
    → All R xs
all-both P Q R f [] p q = All-nil R
all-both P Q R f (x ∷ xs) p q =
    All-cons R x xs (f x (All-head P x xs p) (All-head Q x xs q)) (all-both P Q R f xs (All-tail P x xs p) (All-tail Q x xs q))

-- each group is one of those that there are
pub groups-below : (children : List (List ℕ)) (servers : ℕ) (owners places : List ℕ)
    → owners ≡ owners_of children servers → places ≡ owning owners (length children)
    → All (λ server. is_held children server ≡ true) (range_with_len 0 servers)
    → All (λ group. group < length places) (groups_of owners places)
groups-below children servers owners places owners_so places_so held =
    let Below : ℕ → Type 0 = λ owner. owner < length children in
    let Owns : ℕ → Type 0 = λ owner. is_number_in owners owner ≡ true in
    let Grouped : ℕ → Type 0 = λ owner. first_place (λ place. place == owner) places < length places in
    let numbers = range_with_len 0 servers in
    let below : All Below (owners_of children servers) =
    All-map Below (first_child_with children) numbers (All-weaker (λ server. is_held children server ≡ true) (λ server. first_child_with children server < length children) (λ server. first-below (λ child. is_number_in child server) children) numbers held) in
    let grouped : (owner : ℕ) → Below owner → Owns owner → Grouped owner =
    λ owner within owns.
    let among = among-owning (is_number_in owners) owner 0 (length children) owns (omega arith) (omega (arith, within)) in
    let P : List ℕ → Type 0 = λ at. first_place (λ place. place == owner) at < length at in
    subst P (sym places_so) (first-below (λ place. place == owner) (owning owners (length children)) among) in
    All-map
    (λ group. group < length places)
    (λ owner. first_place (λ place. place == owner) places)
    owners
    (all-both Below Owns Grouped grouped owners (subst (All Below) (sym owners_so) below) (all-in owners))

-- a number below another one makes that one more than 0
pub some-below : (numbers : List ℕ) (bound : ℕ) → 0 < length numbers → All (λ number. number < bound) numbers
    → 0 < bound
some-below [] bound some below = absurd (omega (arith, some))
some-below (number ∷ numbers) bound some below =
    let first = All-head (λ n. n < bound) number numbers below in omega (arith, first)
