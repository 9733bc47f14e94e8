-- Where a call of one key ends: what it says of the keys as they were.
use Rattle.std.proofs.Common.{◌≡◌, ◌<◌, ◌≤◌, ℕ, Bool, true, List, [], ◌∷◌, ◌++◌, length, Some, None}
use Rattle.std.proofs.Common.{refl, sym, subst, ◌∙◌}
use Rattle.std.specs.Prelude.{All, slice_get, slice_index_or, slice_set}
use Rattle.std.proofs.lemmas.List.Elements.{All-head}
use Rattle.std.proofs.lemmas.Option.{get_or_from_slice_get, slice_get_within}
use Rattle.tko_model.specs.Records.{HealthItem}
use Rattle.tko_text.specs.declared.request.Request.{Request}
use Rattle.tko_pools.specs.Configs.{Configuration}
use Rattle.tko_route.specs.Routing.{GoesOn}
use Rattle.tko_route.specs.Underway.{Awaited}
use Rattle.tko_route.specs.declared.attempt.Attempt.{Attempt}
use Rattle.tko_reply.specs.Cuts.{KeyLost}
use Rattle.tko_keys.specs.FirstKey.{TakesNext}
use Rattle.tko_keys.specs.declared.step.KeyStep.{KeyStep}
use Rattle.tko_keys.specs.KeysDriven.{AreUnderWay, FirstLost, FirstTaken, IsOutAt, NextLost, due_by}
use Rattle.tko_keys.specs.KeysDriven.{failed_with, others_of}
use Rattle.tko_keys.specs.KeysState.{DueKey, KeySend, KeySlot, KeysCame, KeysState, MayBegin}
use Rattle.tko_keys.specs.KeysState.{has_values, values_ahead}
use Rattle.tko_keys.specs.SlotCalls.{IsAnyOut, IsSlotOut, PartDropped, PartTaken, SlotBegun}
use Rattle.tko_keys.specs.KeysDriven as driven
use Rattle.tko_keys.proofs.PlaceLemmas.{ahead_pushed, ahead_replaced}
use Rattle.tko_keys.proofs.SlotLemmas.{went_so}
use Rattle.tko_keys.proofs.StayLemmas.{out_no_values}
use Rattle.tko_keys.proofs.ReadyLemmas.{step_ready}
use Rattle.tko_keys.proofs.SaidLemmas.{begun_said, failed_more}
use Rattle.tko_keys.proofs.StepLemmas.{push_step}
use Rattle.tko_keys.proofs.CallLemmas.{next_lost_ready, taken_lost_ready, taken_ready}

pub ahead_push : (slots slots' : List KeySlot) (ahead : ℕ) (slot : KeySlot)
    → ahead ≡ values_ahead slots → slots' ≡ slots ++ slot ∷ [] → ahead ≤ values_ahead slots'
ahead_push slots slots' ahead slot is more =
    subst (λ ss. ahead ≤ values_ahead ss) (sym more)
    (subst (λ n. n ≤ values_ahead (slots ++ slot ∷ [])) (sym is)
    (ahead_pushed has_values slots slot))

module _ {H : Type 0} {steps : H → HealthItem → H → Type 0} {health health' : H}
    {config : Configuration} where
  -- the next key was begun
  pub begun_ready : {old new : KeysState} {said : KeyStep} {request : Request} (slot : KeySlot)
      → AreUnderWay config old → MayBegin old
      → GoesOn steps health (λ calls. SlotBegun config request calls said slot) health'
      → new.slots ≡ old.slots ++ slot ∷ [] → new.due ≡ old.due ++ due_by (length old.slots) said
      → new.sends ≡ old.sends → new.came ≡ old.came
      → new.plan ≡ old.plan → new.unique ≡ old.unique → new.failed ≡ failed_with slot old.failed
      → AreUnderWay config new
  begun_ready {old} {said = said} slot ready may on slots due sends came plan unique failed =
      step_ready ready (push_step ready slot said may.3 may.4 slots due sends came plan unique
      (λ is. failed_more slot old.failed (sym failed ∙ is)) (begun_said slot on.is))

  -- memory ran out at it
  pub begin_lost_ends : {old state : KeysState} {attempts : List Attempt} {slots' : List KeySlot}
      {left' : List (List ℕ)} {due' : List DueKey} {sends' : List KeySend} {request : Request}
      (slot : KeySlot)
      → state ≡ old → AreUnderWay config state → MayBegin state
      → TakesNext state.unique state.left request left'
      → GoesOn steps health (λ calls. KeyLost config request calls attempts) health'
      → slot.awaited ≡ None → slots' ≡ state.slots ++ slot ∷ [] → due' ≡ state.due
      → sends' ≡ state.sends
      → GoesOn steps health (λ calls. NextLost config old calls attempts
      (record state { left = left'; slots = slots'; due = due'; sends = sends'; lost = true }))
      health'
      × AreUnderWay config (record state {
        left = left';
        slots = slots';
        due = due';
        sends = sends';
        lost = true;
      })
  begin_lost_ends {old} {state} {attempts} {slots'} {left'} {due'} {sends'} {request} slot is ready
      may next on ended slots due sends =
      let New : KeysState = record state {
        left = left';
        slots = slots';
        due = due';
        sends = sends';
        lost = true;
      } in
      let goes : GoesOn steps health (λ calls. NextLost config state calls attempts New) health' =
      went_so on (λ calls lost. driven.at_next next.key left' slot may next.next
      (subst (λ (r : Request). KeyLost config r calls attempts) next.is lost) ended
      (rw (slots, due, sends) refl)) in (
        subst (λ (s : KeysState). GoesOn steps health
            (λ calls. NextLost config s calls attempts New) health') is goes,
        next_lost_ready ready goes.is,
      )

-- the first key that something came for, as it is found
pub record AtCame (config : Configuration) (state : KeysState) (place : ℕ)
    (places : List ℕ) : Type 0 where
  pub first : state.came.places ≡ place ∷ places
  pub slot : KeySlot
  pub awaited : Awaited
  pub was : slice_get state.slots place ≡ Some slot
  pub is : IsSlotOut config slot awaited

pub at_came : {config : Configuration} {state : KeysState} {place : ℕ} {places : List ℕ}
    → AreUnderWay config state → state.came.places ≡ place ∷ places
    → AtCame config state place places
at_came {config} {state} {place} {places} ready first =
    let out = All-head (IsOutAt config state.slots) place places
    (subst (All (IsOutAt config state.slots)) first ready.came.each) in
    record { first = first; slot = out.slot; awaited = out.awaited; was = out.at; is = out.is }

module _ {config : Configuration} {state : KeysState} {place : ℕ} {places : List ℕ}
    (at : AtCame config state place places) where
  pub place_within : place < length state.slots
  place_within = slice_get_within state.slots place at.slot at.was

  -- the slot that is read there
  pub same_slot : {read : KeySlot} → read ≡ slice_index_or state.slots place read → at.slot ≡ read
  same_slot {read} is = sym (get_or_from_slice_get state.slots place at.slot read at.was) ∙ sym is

  pub slot_out : {read : KeySlot} → read ≡ slice_index_or state.slots place read
      → IsAnyOut config read
  slot_out {read} is = subst (IsAnyOut config) (same_slot is)
      (record { awaited = at.awaited; is = at.is })

  pub ahead_set : {slots' : List KeySlot} {ahead : ℕ} (now : KeySlot)
      → ahead ≡ values_ahead state.slots → slots' ≡ slice_set state.slots place now
      → ahead ≤ values_ahead slots'
  ahead_set {slots'} {ahead} now is set =
      subst (λ ss. ahead ≤ values_ahead ss) (sym set)
      (subst (λ n. n ≤ values_ahead (slice_set state.slots place now)) (sym is)
      (ahead_replaced has_values state.slots place at.slot now at.was
      (out_no_values at.slot at.awaited at.is.out)))

module _ {H : Type 0} {steps : H → HealthItem → H → Type 0} {health health' : H}
    {config : Configuration} where
  -- a key was taken on
  pub taken_ends : (said' : KeyStep) {old state : KeysState} {place : ℕ} {places : List ℕ}
      {read after : KeySlot} {came left : KeysCame} {said : KeyStep} {due' : List DueKey}
      {failed' : Bool} → said' ≡ said → state ≡ old → AreUnderWay config state
      → (at : AtCame config state place places) → read ≡ slice_index_or state.slots place read
      → came ≡ others_of places state.came
      → GoesOn steps health (λ calls. PartTaken config came read calls said left after) health'
      → due' ≡ state.due ++ due_by place said → failed' ≡ failed_with after state.failed
      → GoesOn steps health (λ calls. FirstTaken config old calls said'
      (record state {
        slots = slice_set state.slots place after;
        due = due';
        came = left;
        failed = failed';
      })) health'
      × AreUnderWay config (record state {
        slots = slice_set state.slots place after;
        due = due';
        came = left;
        failed = failed';
      })
  taken_ends said' {old} {state} {place} {places} {read} {after} {came} {left} {said} {due'}
      {failed'} says is ready at reads rest on due failed =
      let New : KeysState = record state {
        slots = slice_set state.slots place after;
        due = due';
        came = left;
        failed = failed';
      } in
      let goes : GoesOn steps health (λ calls. FirstTaken config state calls said New) health' =
      went_so on (λ calls taken. record {
        place = place;
        places = places;
        first = at.first;
        slot = at.slot;
        was = at.was;
        after = after;
        left = left;
        taken =
            subst (λ (k : KeySlot). PartTaken config
            (others_of places state.came) k calls said left after) (sym (same_slot at reads))
            (subst (λ (m : KeysCame). PartTaken config m read calls said left after) rest taken);
        state = rw (due, failed) refl;
      }) in (
        subst (λ (k : KeyStep). GoesOn steps health
            (λ calls. FirstTaken config old calls k New) health') (sym says)
            (subst (λ (s : KeysState). GoesOn steps health
            (λ calls. FirstTaken config s calls said New) health') is goes),
        taken_ready ready goes.is,
      )

  -- memory ran out there
  pub lost_ends : {old state : KeysState} {place : ℕ} {places : List ℕ} {read after : KeySlot}
      {came left : KeysCame} {attempts : List Attempt} → state ≡ old → AreUnderWay config state
      → (at : AtCame config state place places) → read ≡ slice_index_or state.slots place read
      → came ≡ others_of places state.came
      → GoesOn steps health (λ calls. PartDropped config came read calls attempts left after)
      health'
      → GoesOn steps health (λ calls. FirstLost config old calls attempts
      (record state { slots = slice_set state.slots place after; came = left; lost = true }))
      health'
      × AreUnderWay config (record state {
        slots = slice_set state.slots place after;
        came = left;
        lost = true;
      })
  lost_ends {old} {state} {place} {places} {read} {after} {came} {left} {attempts} is ready at reads
      rest on =
      let New : KeysState = record state {
        slots = slice_set state.slots place after;
        came = left;
        lost = true;
      } in
      let goes : GoesOn steps health (λ calls. FirstLost config state calls attempts New) health' =
      went_so on (λ calls lost. record {
        place = place;
        places = places;
        first = at.first;
        slot = at.slot;
        was = at.was;
        after = after;
        left = left;
        lost =
            subst (λ (k : KeySlot). PartDropped config
            (others_of places state.came) k calls attempts left after)
            (sym (same_slot at reads))
            (subst (λ (m : KeysCame). PartDropped config m read calls attempts left after) rest
            lost);
        state = refl;
      }) in (
        subst (λ (s : KeysState). GoesOn steps health
            (λ calls. FirstLost config s calls attempts New) health') is goes,
        taken_lost_ready ready
            goes.is,
      )
