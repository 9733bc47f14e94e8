-- One key came further: how far the keys of the request came.
use Rattle.std.proofs.Common.{◌≡◌, ◌≢◌, ◌<◌, ◌≤◌, ◌==◌, ℕ, true, false, List, [], ◌∷◌, ◌++◌, length}
use Rattle.std.proofs.Common.{length-append, Some, refl, sym, ap, subst, ◌∙◌, append_assoc, arith}
use Rattle.std.proofs.Common.{inl, inr}
use Rattle.std.specs.Prelude.{◌||◌, slice_get, slice_set}
use Rattle.std.specs.List.{list_any}
use Rattle.std.proofs.lemmas.Bool.Decides.{eqb_tells}
use Rattle.std.proofs.lemmas.List.{length-set}
use Rattle.std.proofs.lemmas.Option.{same_Some, slice_get_within}
use Rattle.tko_text.specs.declared.request.Request.{Request}
use Rattle.tko_pools.specs.Configs.{Configuration}
use Rattle.tko_route.specs.Underway.{Awaited}
use Rattle.tko_reply.specs.Answering.{retrieval}
use Rattle.tko_reply.specs.Answers.{request_for}
use Rattle.tko_reply.specs.Interactions.{Interaction}
use Rattle.tko_reply.proofs.AnsweringLemmas.{request_for_one}
use Rattle.tko_keys.specs.declared.step.KeyStep.{KeyStep}
use Rattle.tko_keys.specs.AtOnce.{ArePlaced, own_of}
use Rattle.tko_keys.specs.KeysSoFar.{IsAwaitedAt, IsKeyCame, IsSlotAt, KeysSoFar, is_to_take}
use Rattle.tko_keys.specs.KeysState.{KeySlot, KeysCame, KeysState}
use Rattle.tko_keys.specs.Lines.{key_of, part_for_key}
use Rattle.tko_keys.specs.SlotCalls.{IsLeftForOthers}
use Rattle.tko_keys.proofs.PlaceLemmas.{get_end, get_not_end}
use Rattle.tko_keys.proofs.PlacedLemmas.{all_alone, own_here, own_there, placed_more}
use Rattle.tko_keys.proofs.ReadyLemmas.{KeysStep, no_came, step_ready}
use Rattle.tko_keys.proofs.OthersLemmas.{CameStays, LostMore, any_none, left_stays, lost_on}
use Rattle.tko_keys.proofs.OthersLemmas.{same_stays}

-- One key came further, and all others are where they were.
pub one_further : {config : Configuration} {request : Request} {old new : KeysState}
    {done : List Interaction} {place : ℕ} {after : KeySlot} {said : KeyStep} (begun : List (List ℕ))
    (adds : List Interaction)
    → (s : KeysSoFar config request old done) → KeysStep config old new place after said
    → request ≡ retrieval (begun ++ new.left) new.unique → length begun ≡ length new.slots
    → length old.slots ≤ length new.slots
    → ((other : ℕ) → other ≢ place → slice_get begun other ≡ slice_get s.begun other)
    → LostMore old.lost new.lost
    → CameStays config request old.slots place old.came new.came
    → ((key : List ℕ) → slice_get begun place ≡ Some key
    → IsSlotAt config request key new.came false after.awaited new.lost after
    (own_of place s.placed ++ adds))
    → KeysSoFar config request new (done ++ adds)
one_further {config} {request} {old} {new} {done} {place} {after} begun adds s on whole all longer
    same lost stays now =
    let within : place < length new.slots = slice_get_within new.slots place after on.changed.at in
    let gone : is_to_take place new.came ≡ false =
    any_none place new.came.places (no_came s.ready on) in
    record {
      several = s.several;
      ready = step_ready s.ready on;
      begun = begun;
      whole = whole;
      all = all;
      placed = s.placed ++ all_alone place adds;
      are_placed =
          subst (λ p. ArePlaced p.grouping (length new.slots) (s.placed ++ all_alone place adds)
          (done ++ adds)) (sym on.plan)
          (placed_more place adds s.are_placed longer within);
      each = λ at key slot has is. elim (eqb_tells at place) [
        | inl eq ↦
            let this : slot ≡ after =
            same_Some slot after (sym is ∙ ap (slice_get new.slots) eq.1 ∙ on.changed.at) in
            let here : IsSlotAt config request key new.came
            (is_to_take place new.came) after.awaited new.lost after
            (own_of place s.placed ++ adds) =
            subst (λ b. IsSlotAt config request key new.came b after.awaited new.lost after
            (own_of place s.placed ++ adds)) (sym gone)
            (now key (ap (slice_get begun) (sym eq.1) ∙ has)) in
            let there : IsSlotAt config request key new.came
            (is_to_take place new.came) after.awaited new.lost after
            (own_of place (s.placed ++ all_alone place adds)) =
            subst (IsSlotAt config request key new.came
            (is_to_take place new.came) after.awaited new.lost after)
            (sym (own_here s.placed place adds)) here in
            let at_this : IsSlotAt config request key new.came
            (is_to_take at new.came) after.awaited new.lost after
            (own_of at (s.placed ++ all_alone place adds)) =
            subst (λ n. IsSlotAt config request key new.came
            (is_to_take n new.came) after.awaited new.lost after
            (own_of n (s.placed ++ all_alone place adds))) (sym eq.1) there in
            subst (λ (k : KeySlot). IsSlotAt config request key new.came
            (is_to_take at new.came) k.awaited new.lost k
            (own_of at (s.placed ++ all_alone place adds))) (sym this) at_this
        | inr ne ↦
            let before : slice_get old.slots at ≡ Some slot =
            sym (on.changed.others at ne.1) ∙ is in
            let was = s.each at key slot (sym (same at ne.1) ∙ has) before in
            subst (IsSlotAt config request key new.came
            (is_to_take at new.came) slot.awaited new.lost slot)
            (sym (own_there s.placed place at adds ne.1))
            (stays at key slot slot.awaited new.lost (own_of at s.placed) ne.1 before
            (lost_on config request key old.came (is_to_take at old.came) slot
            (own_of at s.placed) slot.awaited old.lost new.lost lost was))
      ];
    }

module _ {config : Configuration} {request : Request} {old : KeysState} {done : List Interaction}
    (s : KeysSoFar config request old done) where
  -- one of the keys is asked for alone
  pub asked_alone : (key : List ℕ) → retrieval (key ∷ []) old.unique ≡ request_for request key
  asked_alone key =
      request_for_one (s.begun ++ old.left) old.unique key
      ∙ ap (λ (r : Request). request_for r key) (sym s.whole)

  nothing_yet : own_of (length old.slots) s.placed ≡ []
  nothing_yet = s.are_placed.only (length old.slots) (omega arith)

  -- the next key is behind those that were begun
  more_begun : (new : KeysState) (key : List ℕ) (left : List (List ℕ)) → old.left ≡ key ∷ left
      → new.left ≡ left → new.unique ≡ old.unique
      → request ≡ retrieval ((s.begun ++ key ∷ []) ++ new.left) new.unique
  more_begun new key left next left' unique =
      s.whole ∙ ap (λ ks. retrieval (s.begun ++ ks) old.unique)
      (next ∙ ap (λ ks. key ∷ ks) (sym left'))
      ∙ ap (λ ks. retrieval ks old.unique) (sym (append_assoc s.begun (key ∷ []) new.left))
      ∙ ap (retrieval ((s.begun ++ key ∷ []) ++ new.left)) (sym unique)

  -- the key of the place behind
  key_behind : (key other : List ℕ)
      → slice_get (s.begun ++ key ∷ []) (length old.slots) ≡ Some other → key ≡ other
  key_behind key other has =
      same_Some key other (sym (get_end s.begun key) ∙ ap (slice_get (s.begun ++ key ∷ [])) s.all
      ∙ has)

first_here : (came : KeysCame) (place : ℕ) (places : List ℕ) → came.places ≡ place ∷ places
    → is_to_take place came ≡ true
first_here came place places first = elim (eqb_tells place place) [
  | inl eq ↦ ap (list_any (λ (n : ℕ). n == place)) first
      ∙ ap (λ b. b || list_any (λ (n : ℕ). n == place) places) eq.0
  | inr ne ↦ absurd (ne.1 refl)
]

module _ {config : Configuration} {request : Request} {old new : KeysState}
    {done : List Interaction} (s : KeysSoFar config request old done) where
  -- one more key was begun
  pub pushed_on : {slot : KeySlot} {said : KeyStep} (key : List ℕ) (left : List (List ℕ))
      (adds : List Interaction) → old.left ≡ key ∷ left
      → new.left ≡ left → new.unique ≡ old.unique → new.slots ≡ old.slots ++ slot ∷ []
      → new.came ≡ old.came → LostMore old.lost new.lost
      → KeysStep config old new (length old.slots) slot said
      → IsSlotAt config request key new.came false slot.awaited new.lost slot adds
      → KeysSoFar config request new (done ++ adds)
  pushed_on {slot} key left adds next left' unique slots came lost on is =
      one_further (s.begun ++ key ∷ []) adds s on (more_begun s new key left next left' unique)
      (omega (
        arith,
        length-append s.begun (key ∷ []),
        s.all,
        ap length slots,
        length-append old.slots (slot ∷ []),
      ))
      (omega (arith, ap length slots, length-append old.slots (slot ∷ [])))
      (λ other apart. get_not_end s.begun key other (λ e. apart (e ∙ s.all)))
      lost (same_stays config request old.slots (length old.slots) old.came new.came came)
      (λ other has. subst (λ k. IsSlotAt config request k new.came false slot.awaited new.lost slot
      (own_of (length old.slots) s.placed ++ adds)) (key_behind s key other has)
      (subst (λ ds. IsSlotAt config request key new.came false slot.awaited new.lost slot
      (ds ++ adds)) (sym (nothing_yet s)) is))

  -- a key that something came for came further
  pub set_on : {place : ℕ} {after : KeySlot} {said : KeyStep} (places : List ℕ) (slot : KeySlot)
      (awaited : Awaited) (left : KeysCame) (adds : List Interaction)
      → old.came.places ≡ place ∷ places
      → slice_get old.slots place ≡ Some slot → slot.awaited ≡ Some awaited
      → IsLeftForOthers (key_of slot) (record old.came { places = places }) left → new.came ≡ left
      → new.left ≡ old.left → new.unique ≡ old.unique → new.slots ≡ slice_set old.slots place after
      → LostMore old.lost new.lost
      → KeysStep config old new place after said
      → ((key : List ℕ) (was : List Interaction)
      → IsKeyCame config request key
      (part_for_key old.came (key_of slot)) old.came.reply awaited slot was
      → IsSlotAt config request key new.came false after.awaited new.lost after (was ++ adds))
      → KeysSoFar config request new (done ++ adds)
  set_on {place} {after} places slot awaited left adds first at out leaves came left' unique slots
      lost on now =
      one_further s.begun adds s on
      (s.whole ∙ ap (λ ks. retrieval (s.begun ++ ks) old.unique) (sym left')
      ∙ ap (retrieval (s.begun ++ new.left)) (sym unique))
      (s.all ∙ sym (ap length slots ∙ length-set old.slots place after))
      (omega (arith, ap length slots, length-set old.slots place after))
      (λ other apart. refl) lost
      (subst (CameStays config request old.slots place old.came) (sym came)
      (left_stays config request old.slots place places slot old.came left
      first at s.ready.came.parts leaves))
      (λ key has. now key (own_of place s.placed)
      (subst (λ b. IsAwaitedAt config request key old.came b awaited slot (own_of place s.placed))
      (first_here old.came place places first)
      (subst (λ w. IsSlotAt config request key old.came (is_to_take place old.came) w old.lost slot
      (own_of place s.placed)) out (s.each place key slot has at))))
