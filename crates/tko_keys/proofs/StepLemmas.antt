-- Each call of one key is a step of that key.
use Rattle.std.proofs.Common.{◌≡◌, ◌<◌, ◌≤◌, ◌+◌, ◌==◌, ℕ, Bool, true, false, List, [], ◌∷◌, ◌++◌}
use Rattle.std.proofs.Common.{cond, length, length-append, map, Some, None, refl, sym, ap, subst}
use Rattle.std.proofs.Common.{◌∙◌, append-nil, arith, inl}
use Rattle.std.specs.Prelude.{◌⊎◌, All, slice_get, slice_set}
use Rattle.std.proofs.lemmas.List.{length-set}
use Rattle.std.proofs.lemmas.List.Elements.{All-tail}
use Rattle.std.proofs.lemmas.Option.{none-some, same_Some, slice_get_past}
use Rattle.tko_pools.specs.Configs.{Configuration}
use Rattle.tko_route.specs.Calls.{RoutedCall, came}
use Rattle.tko_route.specs.Underway.{Awaited}
use Rattle.tko_route.specs.declared.attempt.Attempt.{Attempt}
use Rattle.tko_keys.specs.declared.step.KeyStep.{KeyStep}
use Rattle.tko_keys.specs.KeysDriven.{AreUnderWay, FirstLost, FirstTaken, HaveCome, HaveParts}
use Rattle.tko_keys.specs.KeysDriven.{IsOutAt, NextBegun, due_by, outs_at, outs_by, outs_in}
use Rattle.tko_keys.specs.KeysDriven.{with_dropped, with_loss, with_next, with_taken}
use Rattle.tko_keys.specs.KeysState.{KeySlot, KeysCame, KeysState, MayBegin, has_failed, has_values}
use Rattle.tko_keys.specs.KeysState.{key_places_in, places_out, values_ahead}
use Rattle.tko_keys.specs.Lines.{key_at}
use Rattle.tko_keys.specs.SlotCalls.{CanGoOn, IsSlotOut}
use Rattle.tko_keys.specs.declared.step.KeyStep.TheVariants as step
use Rattle.tko_keys.proofs.PlaceLemmas.{ahead_pushed, ahead_replaced, pushed, replaced, IsChanged}
use Rattle.tko_keys.proofs.OutLemmas.{count_at, count_cons, count_in, length_in, none_more}
use Rattle.tko_keys.proofs.StayLemmas.{out_no_values, out_not_failed}
use Rattle.tko_keys.proofs.ReadyLemmas.{IsSaid, KeysStep}
use Rattle.tko_keys.proofs.SaidLemmas.{begun_said, dropped_facts, failed_more, out_first}
use Rattle.tko_keys.proofs.SaidLemmas.{taken_said}

parts_left : (shared : Bool) (key : List ℕ) (keys : List (List ℕ)) → HaveParts shared (key ∷ keys)
    → HaveParts shared keys
parts_left true key keys parts = parts.1
parts_left false key keys parts = omega (arith, parts)

module _ {config : Configuration} {old new : KeysState} (ready : AreUnderWay config old) where
  -- one more key was begun
  pub push_step : (after : KeySlot) (said : KeyStep) → length (places_out old) < old.plan.most
      → length old.slots < values_ahead old.slots + old.plan.most
      → new.slots ≡ old.slots ++ after ∷ [] → new.due ≡ old.due ++ due_by (length old.slots) said
      → new.sends ≡ old.sends → new.came ≡ old.came
      → new.plan ≡ old.plan → new.unique ≡ old.unique
      → (new.failed ≡ true → (old.failed ≡ true) ⊎ (has_failed after ≡ true))
      → IsSaid config after said
      → KeysStep config old new (length old.slots) after said
  push_step after said few near slots due sends came plan unique failed says =
      let longer : values_ahead old.slots ≤ values_ahead new.slots =
      subst (λ ss. values_ahead old.slots ≤ values_ahead ss) (sym slots)
      (ahead_pushed has_values old.slots after) in
      let same : key_places_in old.due old.sends new.came ≡ places_out old =
      ap (key_places_in old.due old.sends) came in
      record {
        changed = subst (IsChanged old.slots (length old.slots) after) (sym slots)
            (pushed old.slots after);
        split = λ at. omega (
          arith,
          none_more old.slots (length old.slots == at),
          ap (count_at at) same,
        );
        due = due;
        sends = sends;
        came = subst (HaveCome config old.slots) (sym came) ready.came;
        plan = plan;
        unique = unique;
        few = omega (arith, few, ap length same);
        near = omega (
          arith,
          ap length slots,
          length-append old.slots (after ∷ []),
          near,
          longer,
          ap (λ p. p.most) plan,
        );
        failed = failed;
        free = λ slot at. absurd
            (none-some slot (sym (slice_get_past old.slots (length old.slots) (omega arith)) ∙ at));
        says = says;
      }

  -- a key that something came for came further
  pub set_step : (place : ℕ) (places : List ℕ) (was after : KeySlot) (awaited : Awaited)
      (left : KeysCame) (said : KeyStep) → old.came.places ≡ place ∷ places
      → slice_get old.slots place ≡ Some was → was.awaited ≡ Some awaited
      → left ≡ record old.came { places = places; outcome = left.outcome } → CanGoOn left
      → new.slots ≡ slice_set old.slots place after → new.due ≡ old.due ++ due_by place said
      → new.sends ≡ old.sends → new.came ≡ left
      → new.plan ≡ old.plan → new.unique ≡ old.unique
      → (new.failed ≡ true → (old.failed ≡ true) ⊎ (has_failed after ≡ true))
      → IsSaid config after said
      → KeysStep config old new place after said
  set_step place places was after awaited left said first at is kept goes_on slots due sends came
      plan unique failed says =
      let longer : values_ahead old.slots ≤ values_ahead new.slots =
      subst (λ ss. values_ahead old.slots ≤ values_ahead ss) (sym slots)
      (ahead_replaced has_values old.slots place was after at (out_no_values was awaited is)) in
      let one : outs_at old.slots place ≡ 1 = ap outs_in at ∙ ap outs_by is in
      let now : new.came.places ≡ places = ap (λ (k : KeysCame). k.places) (came ∙ kept) in
      let each : All (IsOutAt config old.slots) (place ∷ places) =
      subst (All (IsOutAt config old.slots)) first ready.came.each in
      let rest : HaveCome config old.slots left =
      subst (HaveCome config old.slots) (sym kept) (record {
        each = All-tail (IsOutAt config old.slots) place places each;
        parts = parts_left old.came.shared (key_at old.slots place) (map (key_at old.slots) places)
            (subst (λ ps. HaveParts old.came.shared (map (key_at old.slots) ps)) first
            ready.came.parts);
        replied = subst CanGoOn kept goes_on;
      }) in
      record {
        changed = subst (IsChanged old.slots place after) (sym slots)
            (replaced old.slots place was after at);
        split = λ at.
            omega (
              arith,
              count_in at old.due old.sends old.came,
              count_in at old.due old.sends new.came,
              ap (count_at at) now,
              ap (count_at at) first,
              count_cons at place places,
              ap (λ n. cond (place == at) n 0) one,
            );
        due = due;
        sends = sends;
        came = subst (HaveCome config old.slots) (sym came) rest;
        plan = plan;
        unique = unique;
        few = omega (
          arith,
          ready.few,
          length_in old.due old.sends old.came,
          length_in old.due old.sends new.came,
          ap length now,
          ap length first,
        );
        near = omega (
          arith,
          ap length slots,
          length-set old.slots place after,
          ready.near,
          longer,
          ap (λ p. p.most) plan,
        );
        failed = failed;
        free = λ slot found. ap has_failed (sym (same_Some was slot (sym at ∙ found)))
            ∙ out_not_failed was awaited is;
        says = says;
      }

module _ {config : Configuration} {old new : KeysState} (ready : AreUnderWay config old) where
  -- the next key was begun
  pub next_step : {calls : List RoutedCall} {said : KeyStep}
      (it : NextBegun config old calls said new)
      → KeysStep config old new (length old.slots) it.slot said
  next_step {said = said} it =
      subst (λ (s : KeysState). KeysStep config old s (length old.slots) it.slot said)
      (sym it.state)
      (push_step {new = with_next it.slot it.left said old} ready it.slot said it.may.3 it.may.4
      refl refl refl refl refl refl (failed_more it.slot old.failed) (begun_said it.slot it.begun))

  -- memory ran out at it
  pub next_lost_step : (left : List (List ℕ)) (slot : KeySlot) → MayBegin old → slot.awaited ≡ None
      → new ≡ with_loss (record old { left = left; slots = old.slots ++ slot ∷ [] })
      → KeysStep config old new (length old.slots) slot (step.Tried [])
  next_lost_step left slot may ended state =
      let New : KeysState = with_loss
      (record old { left = left; slots = old.slots ++ slot ∷ [] }) in
      subst (λ (s : KeysState). KeysStep config old s (length old.slots) slot (step.Tried []))
      (sym state)
      (push_step {new = New} ready slot (step.Tried []) may.3 may.4
      refl (sym (append-nil old.due)) refl refl refl refl (λ is. inl is) ended)

  -- what came for a key was taken
  pub taken_step : {calls : List RoutedCall} {said : KeyStep}
      (it : FirstTaken config old calls said new)
      → KeysStep config old new it.place it.after said
  taken_step {said = said} it =
      let part = it.taken in
      let was : IsSlotOut config it.slot part.taken.awaited =
      out_first ready it.place it.places it.slot part.taken.awaited it.first it.was
      part.taken.out in
      subst (λ (s : KeysState). KeysStep config old s it.place it.after said) (sym it.state)
      (set_step {new = with_taken it.place it.after said it.left old} ready it.place it.places
      it.slot it.after
      part.awaited it.left said it.first it.was part.out part.leaves.same
      (part.leaves.goes_on ready.came.replied)
      refl refl refl refl refl refl (failed_more it.after old.failed)
      (taken_said it.slot it.after part.taken was))

  -- memory ran out there
  pub taken_lost_step : {calls : List RoutedCall} {attempts : List Attempt}
      (it : FirstLost config old calls attempts new)
      → KeysStep config old new it.place it.after (step.Tried [])
  taken_lost_step it =
      let facts = dropped_facts ready it.lost in
      subst (λ (s : KeysState). KeysStep config old s it.place it.after (step.Tried []))
      (sym it.state)
      (set_step {new = with_dropped it.place it.after it.left old} ready it.place it.places it.slot
      it.after
      facts.0 it.left (step.Tried []) it.first it.was facts.1 facts.2 facts.3
      refl (sym (append-nil old.due)) refl refl refl refl (λ is. inl is) facts.4)
