-- What is said of a key stays where only another one came further.
use Rattle.std.proofs.Common.{◌≡◌, ◌≢◌, ◌≤◌, ◌==◌, ℕ, Bool, true, false, List, [], ◌∷◌, cond}
use Rattle.std.proofs.Common.{length, map, Option, Some, None, refl, sym, ap, subst, ◌∙◌, arith}
use Rattle.std.proofs.Common.{inl, inr, true≢false}
use Rattle.std.specs.Prelude.{◌⊎◌, ◌||◌, All, slice_get, unwrap_or}
use Rattle.std.specs.List.{list_any}
use Rattle.std.specs.Option.{option_map}
use Rattle.std.proofs.lemmas.Bool.Decides.{eqb_tells}
use Rattle.std.proofs.lemmas.List.{length-map}
use Rattle.std.proofs.lemmas.List.Elements.{All-head, All-tail}
use Rattle.tko_text.specs.declared.request.Request.{Request}
use Rattle.tko_pools.specs.Configs.{Configuration}
use Rattle.tko_route.specs.Underway.{Awaited}
use Rattle.tko_reply.specs.Interactions.{Interaction}
use Rattle.tko_keys.specs.KeysDriven.{HaveParts}
use Rattle.tko_keys.specs.KeysSoFar.{IsKeyCame, IsSlotAt, is_to_take}
use Rattle.tko_keys.specs.KeysState.{KeySlot, KeysCame}
use Rattle.tko_keys.specs.Lines.{key_at, key_of, part_for_key}
use Rattle.tko_keys.specs.SlotCalls.{IsLeftForOthers}
use Rattle.tko_keys.proofs.StageLemmas.{slot_lost}
use Rattle.tko_keys.proofs.OutLemmas.{count_at, count_cons}

-- memory ran out meanwhile, or did not
abbrev pub LostMore : Bool → Bool → Type 0
LostMore old new = (new ≡ old) ⊎ (new ≡ true)

pub lost_on : (config : Configuration) (request : Request) (key : List ℕ) (came : KeysCame)
    (here : Bool) (slot : KeySlot) (done : List Interaction) (awaited : Option Awaited)
    (lost lost' : Bool)
    → LostMore lost lost' → IsSlotAt config request key came here awaited lost slot done
    → IsSlotAt config request key came here awaited lost' slot done
lost_on config request key came here slot done awaited lost lost' (inl same) is =
    subst (λ l. IsSlotAt config request key came here awaited l slot done) (sym same) is
lost_on config request key came here slot done awaited lost lost' (inr now) is =
    subst (λ l. IsSlotAt config request key came here awaited l slot done) (sym now)
    (slot_lost config request key came here slot done awaited lost is)

pub any_none : (at : ℕ) (places : List ℕ) → count_at at places ≡ 0
    → list_any (λ (other : ℕ). other == at) places ≡ false
any_none at [] none = refl
any_none at (place ∷ places) none = elim (eqb_tells place at) [
  | inl eq ↦ absurd (omega
      (arith, none, count_cons at place places, ap {B = ℕ} (λ b. cond b 1 0) eq.0))
  | inr ne ↦
      ap (λ b. b || list_any (λ (other : ℕ). other == at) places) ne.0
      ∙ any_none at places (omega
      (arith, none, count_cons at place places, ap {B = ℕ} (λ b. cond b 1 0) ne.0))
]

pub any_some : (at : ℕ) (places : List ℕ) → count_at at places ≡ 1
    → list_any (λ (other : ℕ). other == at) places ≡ true
any_some at [] one = absurd (omega (arith, one))
any_some at (place ∷ places) one = elim (eqb_tells place at) [
  | inl eq ↦ ap (λ b. b || list_any (λ (other : ℕ). other == at) places) eq.0
  | inr ne ↦
      ap (λ b. b || list_any (λ (other : ℕ). other == at) places) ne.0
      ∙ any_some at places (omega
      (arith, one, count_cons at place places, ap {B = ℕ} (λ b. cond b 1 0) ne.0))
]

-- What is said of the keys of other places stays where what came changes so.
abbrev pub CameStays : Configuration → Request → List KeySlot → ℕ → KeysCame → KeysCame → Type 0
CameStays config request slots place old new =
    (at : ℕ) (key : List ℕ) (slot : KeySlot) (awaited : Option Awaited) (lost : Bool)
    (done : List Interaction) → at ≢ place → slice_get slots at ≡ Some slot
    → IsSlotAt config request key old (is_to_take at old) awaited lost slot done
    → IsSlotAt config request key new (is_to_take at new) awaited lost slot done

-- nothing is said of what came for a key that nothing came for
pub untaken : (config : Configuration) (request : Request) (old new : KeysCame)
    (awaited : Option Awaited) (lost : Bool) (key : List ℕ) (slot : KeySlot)
    (done : List Interaction)
    → IsSlotAt config request key old false awaited lost slot done
    → IsSlotAt config request key new false awaited lost slot done
untaken config request old new (Some awaited) lost key slot done is = is
untaken config request old new None false key slot done is = is
untaken config request old new None true key slot done is = is

-- what came is the same
pub same_stays : (config : Configuration) (request : Request) (slots : List KeySlot) (place : ℕ)
    (old new : KeysCame) → new ≡ old → CameStays config request slots place old new
same_stays config request slots place old new same = λ at key slot awaited lost done apart is was.
    subst (λ (k : KeysCame). IsSlotAt config request key k (is_to_take at k) awaited lost slot done)
    (sym same) was

part_stays : (config : Configuration) (request : Request) (key : List ℕ) (old new : KeysCame)
    (here : Bool) (slot : KeySlot) (awaited : Option Awaited) (lost : Bool)
    (done : List Interaction)
    → (here ≡ true → part_for_key new (key_of slot) ≡ part_for_key old (key_of slot))
    → new.reply ≡ old.reply
    → IsSlotAt config request key old here awaited lost slot done
    → IsSlotAt config request key new here awaited lost slot done
part_stays config request key old new true slot (Some awaited) lost done part reply is =
    subst (λ r. IsKeyCame config request key (part_for_key new (key_of slot)) r awaited slot done)
    (sym reply)
    (subst (λ p. IsKeyCame config request key p old.reply awaited slot done) (sym (part refl)) is)
part_stays config request key old new false slot (Some awaited) lost done part reply is = is
part_stays config request key old new here slot None false done part reply is = is
part_stays config request key old new here slot None true done part reply is = is

apart_from : (first : List ℕ) (slots : List KeySlot) (at : ℕ) (slot : KeySlot)
    → slice_get slots at ≡ Some slot → (places : List ℕ)
    → All (λ (other : List ℕ). other ≢ first) (map (key_at slots) places)
    → list_any (λ (other : ℕ). other == at) places ≡ true → key_of slot ≢ first
apart_from first slots at slot is [] all some = absurd (true≢false (sym some))
apart_from first slots at slot is (place ∷ places) all some = elim (eqb_tells place at) [
  | inl eq ↦
      let key : key_at slots place ≡ key_of slot =
      ap (λ (o : Option KeySlot). unwrap_or (option_map key_of o) [])
      (ap (slice_get slots) eq.1 ∙ is) in
      subst (λ k. k ≢ first) key
      (All-head (λ (other : List ℕ). other ≢ first) (key_at slots place)
      (map (key_at slots) places) all)
  | inr ne ↦
      apart_from first slots at slot is places
      (All-tail (λ (other : List ℕ). other ≢ first) (key_at slots place)
      (map (key_at slots) places) all)
      (sym (ap (λ b. b || list_any (λ (other : ℕ). other == at) places) ne.0) ∙ some)
]

none_short : (at : ℕ) (places : List ℕ) → length places ≤ 0
    → list_any (λ (other : ℕ). other == at) places ≡ true → ⊥
none_short at [] short some = true≢false (sym some)
none_short at (place ∷ places) short some = omega (arith, short)

part_left : (shared : Bool) (slots : List KeySlot) (place : ℕ) (places : List ℕ)
    (slot one : KeySlot) (other : ℕ) (old left : KeysCame) → old.shared ≡ shared
    → key_at slots place ≡ key_of slot
    → slice_get slots other ≡ Some one → HaveParts shared (map (key_at slots) (place ∷ places))
    → IsLeftForOthers (key_of slot) (record old { places = places }) left
    → list_any (λ (n : ℕ). n == other) places ≡ true
    → part_for_key left (key_of one) ≡ part_for_key old (key_of one)
part_left true slots place places slot one other old left shared same is parts leaves some =
    leaves.others shared (key_of one)
    (subst (λ k. key_of one ≢ k) same
    (apart_from (key_at slots place) slots other one is places parts.0 some))
part_left false slots place places slot one other old left shared same is parts leaves some =
    absurd (none_short other places (omega (arith, parts, length-map places (key_at slots))) some)

-- the others of a request keep their parts
pub left_stays : (config : Configuration) (request : Request) (slots : List KeySlot) (place : ℕ)
    (places : List ℕ) (slot : KeySlot) (old left : KeysCame) → old.places ≡ place ∷ places
    → slice_get slots place ≡ Some slot → HaveParts old.shared (map (key_at slots) old.places)
    → IsLeftForOthers (key_of slot) (record old { places = places }) left
    → CameStays config request slots place old left
left_stays config request slots place places slot old left first at parts leaves =
    λ other key one awaited lost done apart is was.
    let now : left.places ≡ places = ap (λ (k : KeysCame). k.places) leaves.same in
    let here : is_to_take other left ≡ is_to_take other old = elim (eqb_tells place other) [
      | inl eq ↦ absurd (apart (sym eq.1))
      | inr ne ↦
          ap (list_any (λ (n : ℕ). n == other)) now
          ∙ sym (ap (λ b. b || list_any (λ (n : ℕ). n == other) places) ne.0)
          ∙ sym (ap (list_any (λ (n : ℕ). n == other)) first)
    ] in
    let keys : HaveParts old.shared (map (key_at slots) (place ∷ places)) =
    subst (λ ps. HaveParts old.shared (map (key_at slots) ps)) first parts in
    let same_key : key_at slots place ≡ key_of slot =
    ap (λ (o : Option KeySlot). unwrap_or (option_map key_of o) []) at in
    part_stays config request key old left (is_to_take other left) one awaited lost done
    (λ there. part_left old.shared slots place places slot one other old left refl same_key is keys
    leaves (sym (ap (list_any (λ (n : ℕ). n == other)) now) ∙ there))
    (ap (λ (k : KeysCame). k.reply) leaves.same)
    (subst (λ b. IsSlotAt config request key old b awaited lost one done) (sym here) was)
