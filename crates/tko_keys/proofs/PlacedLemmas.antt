-- Interactions by the place of their key.
use Rattle.std.proofs.Common.{◌≡◌, ◌≢◌, ◌≤◌, ◌<◌, ◌==◌, ℕ, Bool, true, false, List, [], ◌∷◌, ◌++◌}
use Rattle.std.proofs.Common.{cond, map, Option, Some, None, refl, sym, ap, subst, ◌∙◌, append-nil}
use Rattle.std.proofs.Common.{arith, inl, inr}
use Rattle.std.specs.Prelude.{All, flat_map, slice_get}
use Rattle.std.proofs.lemmas.Bool.Decides.{eqb_tells}
use Rattle.std.proofs.lemmas.Grind.{flat_map-append}
use Rattle.std.proofs.lemmas.List.Elements.{All-append, All-cons, All-nil}
use Rattle.tko_reply.specs.Interactions.{Interaction}
use Rattle.tko_keys.specs.declared.plan.Grouping.{Grouping}
use Rattle.tko_keys.specs.AtOnce.{ArePlaced, AskedKey, Alone, MayStand, PlacedInteraction, if_here}
use Rattle.tko_keys.specs.AtOnce.{interactions_of, own_in, own_of}
use Rattle.tko_keys.specs.KeysActs.{asked_key_at, asked_keys}
use Rattle.tko_keys.specs.KeysState.{KeySlot}
use Rattle.tko_keys.proofs.OutLemmas.{count_at, count_cons}

own_append : (place : ℕ) (xs ys : List PlacedInteraction)
    → own_of place (xs ++ ys) ≡ own_of place xs ++ own_of place ys
unfolding own_of
own_append place xs ys = flat_map-append (own_in place) xs ys

-- interactions for the key of one place
abbrev pub all_alone : ℕ → List Interaction → List PlacedInteraction
all_alone place items = map (λ it. Alone place it) items

own_same : (place : ℕ) (items : List Interaction) → own_of place (all_alone place items) ≡ items
unfolding own_of
own_same place [] = refl
own_same place (it ∷ items) = elim (eqb_tells place place) [
  | inl eq ↦ ap (λ b. if_here b (it ∷ []) ++ own_of place (all_alone place items)) eq.0
      ∙ ap (λ xs. it ∷ xs) (own_same place items)
  | inr ne ↦ absurd (ne.1 refl)
]

own_other : (place other : ℕ) (items : List Interaction) → other ≢ place
    → own_of other (all_alone place items) ≡ []
unfolding own_of
own_other place other [] apart = refl
own_other place other (it ∷ items) apart = elim (eqb_tells place other) [
  | inl eq ↦ absurd (apart (sym eq.1))
  | inr ne ↦ ap (λ b. if_here b (it ∷ []) ++ own_of other (all_alone place items)) ne.0
      ∙ own_other place other items apart
]

items_same : (place : ℕ) (items : List Interaction)
    → flat_map interactions_of (all_alone place items) ≡ items
items_same place [] = refl
items_same place (it ∷ items) = ap (λ xs. it ∷ xs) (items_same place items)

pub may_alone : (grouping : Grouping) (place : ℕ) (items : List Interaction)
    → All (MayStand grouping) (all_alone place items)
may_alone grouping place [] = All-nil (MayStand grouping)
may_alone grouping place (it ∷ items) =
    All-cons (MayStand grouping) (Alone place it) (all_alone place items) tt
    (may_alone grouping place items)

-- more was done for some keys
pub own_more : (placed more : List PlacedInteraction) (place : ℕ)
    → own_of place (placed ++ more) ≡ own_of place placed ++ own_of place more
own_more placed more place = own_append place placed more

pub own_here : (placed : List PlacedInteraction) (place : ℕ) (adds : List Interaction)
    → own_of place (placed ++ all_alone place adds) ≡ own_of place placed ++ adds
own_here placed place adds = own_append place placed (all_alone place adds)
    ∙ ap (λ xs. own_of place placed ++ xs) (own_same place adds)

pub own_there : (placed : List PlacedInteraction) (place other : ℕ) (adds : List Interaction)
    → other ≢ place → own_of other (placed ++ all_alone place adds) ≡ own_of other placed
own_there placed place other adds apart =
    own_append other placed (all_alone place adds)
    ∙ ap (λ xs. own_of other placed ++ xs) (own_other place other adds apart)
    ∙ append-nil (own_of other placed)

pub placed_adds : {grouping : Grouping} {count count' : ℕ} {placed : List PlacedInteraction}
    {done : List Interaction} (more : List PlacedInteraction)
    → ArePlaced grouping count placed done → count ≤ count'
    → ((place : ℕ) → count' ≤ place → own_of place more ≡ []) → All (MayStand grouping) more
    → ArePlaced grouping count' (placed ++ more) (done ++ flat_map interactions_of more)
placed_adds {grouping} {count} {count'} {placed} {done} more are longer none may = record {
  are = ap (λ xs. xs ++ flat_map interactions_of more) are.are
      ∙ sym (flat_map-append interactions_of placed more);
  only = λ place past.
      own_append place placed more
      ∙ ap (λ xs. xs ++ own_of place more) (are.only place (omega (arith, longer, past)))
      ∙ none place past;
  may = All-append (MayStand grouping) placed more are.may may;
}

past_or_within : (place other count : ℕ) → other ≡ place → place < count → count ≤ other → ⊥
past_or_within place other count same within past = omega (arith, same, within, past)

pub placed_more : {grouping : Grouping} {count count' : ℕ} {placed : List PlacedInteraction}
    {done : List Interaction} (place : ℕ) (adds : List Interaction)
    → ArePlaced grouping count placed done → count ≤ count' → place < count'
    → ArePlaced grouping count' (placed ++ all_alone place adds) (done ++ adds)
placed_more {grouping} {count} {count'} {placed} {done} place adds are more within =
    subst (λ xs. ArePlaced grouping count' (placed ++ all_alone place adds) (done ++ xs))
    (items_same place adds)
    (placed_adds (all_alone place adds) are more
    (λ other past. own_other place other adds
    (λ e. past_or_within place other count' e within past)) (may_alone grouping place adds))

module _ (f : AskedKey → List Interaction) (slots : List KeySlot) (at : ℕ) where
  abbrev own_asked : List AskedKey → List Interaction
  own_asked keys = flat_map (λ (one : AskedKey). if_here (one.place == at) (f one)) keys

  skip : (place : ℕ) (found : Option KeySlot) → (place == at) ≡ false
      → own_asked (asked_key_at place found) ≡ []
  skip place None apart = refl
  skip place (Some slot) apart =
      ap (λ b. if_here b (f (record { place = place; request = slot.key.request })) ++ []) apart

  take_it : (place : ℕ) (slot : KeySlot) → (place == at) ≡ true
      → own_asked (asked_key_at place (Some slot)) ≡ f
      (record { place = place; request = slot.key.request })
  take_it place slot here =
      ap (λ b. if_here b (f (record { place = place; request = slot.key.request })) ++ []) here
      ∙ append-nil (f (record { place = place; request = slot.key.request }))

  one_or_no : (b : Bool) → cond b 1 0 ≤ 0 → b ≡ false
  one_or_no true few = absurd (omega (arith, few))
  one_or_no false few = refl

  -- the keys of other places
  pub asked_none : (places : List ℕ) → count_at at places ≡ 0
      → own_asked (asked_keys slots places) ≡ []
  asked_none [] none = refl
  asked_none (place ∷ places) none =
      let all = count_cons at place places in
      let apart : (place == at) ≡ false = one_or_no (place == at) (omega (arith, none, all)) in
      flat_map-append (λ (one : AskedKey). if_here (one.place == at) (f one))
      (asked_key_at place (slice_get slots place)) (asked_keys slots places)
      ∙ ap (λ xs. xs ++ own_asked (asked_keys slots places))
      (skip place (slice_get slots place) apart) ∙ asked_none places (omega (arith, none, all))

  -- the key of this place
  pub asked_one : (slot : KeySlot) → slice_get slots at ≡ Some slot → (places : List ℕ)
      → count_at at places ≡ 1
      → own_asked (asked_keys slots places) ≡ f (record { place = at; request = slot.key.request })
  asked_one slot is [] one = absurd (omega (arith, one))
  asked_one slot is (place ∷ places) one =
      let all = count_cons at place places in
      let parts = flat_map-append (λ (it : AskedKey). if_here (it.place == at) (f it))
      (asked_key_at place (slice_get slots place)) (asked_keys slots places) in
      elim (eqb_tells place at) [
        | inl eq ↦
            let rest : count_at at places ≡ 0 =
            omega (arith, one, all, ap {B = ℕ} (λ b. cond b 1 0) eq.0) in
            let here : slice_get slots place ≡ Some slot = ap (slice_get slots) eq.1 ∙ is in
            parts ∙ ap (λ xs. own_asked (asked_key_at place (slice_get slots place)) ++ xs)
            (asked_none places rest)
            ∙ append-nil (own_asked (asked_key_at place (slice_get slots place)))
            ∙ ap (λ o. own_asked (asked_key_at place o)) here ∙ take_it place slot eq.0
            ∙ ap (λ n. f (record { place = n; request = slot.key.request })) eq.1
        | inr ne ↦
            parts ∙ ap (λ xs. xs ++ own_asked (asked_keys slots places))
            (skip place (slice_get slots place) ne.0)
            ∙ asked_one slot is places (omega (arith, one, all, ap {B = ℕ} (λ b. cond b 1 0) ne.0))
      ]

-- each of these interactions is that of one key
abbrev pub each_alone : (AskedKey → Interaction) → List AskedKey → List PlacedInteraction
each_alone f keys = map (λ (one : AskedKey). Alone one.place (f one)) keys

pub own_each : (f : AskedKey → Interaction) (at : ℕ) (keys : List AskedKey)
    → own_of at (each_alone f keys) ≡ flat_map
    (λ (one : AskedKey). if_here (one.place == at) (f one ∷ [])) keys
unfolding own_of
own_each f at [] = refl
own_each f at (one ∷ keys) =
    ap (λ xs. if_here (one.place == at) (f one ∷ []) ++ xs) (own_each f at keys)

pub items_each : (f : AskedKey → Interaction) (keys : List AskedKey)
    → flat_map interactions_of (each_alone f keys) ≡ map f keys
items_each f [] = refl
items_each f (one ∷ keys) = ap (λ xs. f one ∷ xs) (items_each f keys)

pub may_each : (grouping : Grouping) (f : AskedKey → Interaction) (keys : List AskedKey)
    → All (MayStand grouping) (each_alone f keys)
may_each grouping f [] = All-nil (MayStand grouping)
may_each grouping f (one ∷ keys) =
    All-cons (MayStand grouping) (Alone one.place (f one)) (each_alone f keys) tt
    (may_each grouping f keys)

pub own_one : (at : ℕ) (it : PlacedInteraction) → own_of at (it ∷ []) ≡ own_in at it
unfolding own_of
own_one at it = append-nil (own_in at it)

pub own_alone : (place : ℕ) (items : List Interaction)
    → own_of place (all_alone place items) ≡ items
own_alone place items = own_same place items

pub own_apart : (place other : ℕ) (items : List Interaction) → other ≢ place
    → own_of other (all_alone place items) ≡ []
own_apart place other items apart = own_other place other items apart

pub items_alone : (place : ℕ) (items : List Interaction)
    → flat_map interactions_of (all_alone place items) ≡ items
items_alone place items = items_same place items
