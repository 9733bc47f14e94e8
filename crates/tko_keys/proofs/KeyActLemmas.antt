-- Each call of one key, with what is recorded after it, takes the keys of a request on.
use Rattle.std.proofs.Common.{◌≡◌, true, false, List, [], ◌∷◌, ◌++◌, map, Some, None, refl, sym, ap}
use Rattle.std.proofs.Common.{subst, ◌∙◌, append-nil, inl, inr}
use Rattle.std.proofs.lemmas.Option.{same_Some}
use Rattle.tko_text.specs.declared.request.Request.{Request}
use Rattle.tko_pools.specs.Configs.{Configuration}
use Rattle.tko_route.specs.Calls.{RoutedCall}
use Rattle.tko_route.specs.Routing.{told_of}
use Rattle.tko_route.specs.declared.attempt.Attempt.{Attempt}
use Rattle.tko_reply.specs.Interactions.{Interaction, Made, Noted, marks_of}
use Rattle.tko_reply.proofs.AnsweringLemmas.{retrieval_keys}
use Rattle.tko_keys.specs.declared.step.KeyStep.{KeyStep}
use Rattle.tko_keys.specs.AtOnce.{IsKeyOver}
use Rattle.tko_keys.specs.KeysActs.{key_record}
use Rattle.tko_keys.specs.KeysDriven.{FirstLost, FirstTaken, NextBegun, NextLost, with_loss}
use Rattle.tko_keys.specs.KeysSoFar.{ComesTo, IsSlotAt, KeysSoFar}
use Rattle.tko_keys.specs.KeysState.{KeysState}
use Rattle.tko_keys.specs.SlotCalls.{key_step, wait_at}
use Rattle.tko_keys.specs.declared.step.KeyStep.TheVariants as step
use Rattle.tko_keys.specs.KeysDriven as driven
use Rattle.tko_keys.proofs.StageLemmas.{goes_at, goes_unrecorded}
use Rattle.tko_keys.proofs.StepLemmas.{next_lost_step, next_step, taken_lost_step, taken_step}
use Rattle.tko_keys.proofs.FurtherLemmas.{asked_alone, pushed_on, set_on}
use Rattle.tko_keys.proofs.GoesLemmas.{all_calls, begun_goes, dropped_over, glued, key_over}
use Rattle.tko_keys.proofs.GoesLemmas.{leaves_at, lost_so_far, lost_step, taken_goes, waits_at}

module _ {config : Configuration} {request : Request} {old new : KeysState}
    {done : List Interaction} (s : KeysSoFar config request old done) where
  pub on_began : {calls : List RoutedCall} {said : KeyStep} {adds : List Interaction}
      → NextBegun config old calls said new → adds ≡ map Made calls ++ key_record said
      → KeysSoFar config request new (done ++ adds)
  on_began {calls} {said} {adds} it are =
      let begun = it.begun in
      let at : IsSlotAt config request it.key new.came false
      (wait_at begun.at) new.lost it.slot adds =
      goes_at config request it.key new.came begun.at it.slot calls new.lost
      (begun_goes request it.key it.slot begun (asked_alone s it.key))
      (begun.aims it.key (retrieval_keys (it.key ∷ []) old.unique))
      (are ∙ ap (λ x. map Made calls ++ key_record x) begun.says) in
      pushed_on s it.key it.left adds it.next (ap (λ (k : KeysState). k.left) it.state)
      (ap (λ (k : KeysState). k.unique) it.state)
      (ap (λ (k : KeysState). k.slots) it.state) (ap (λ (k : KeysState). k.came) it.state)
      (inl (ap (λ (k : KeysState). k.lost) it.state)) (next_step s.ready it)
      (subst (λ w. IsSlotAt config request it.key new.came false w new.lost it.slot adds)
      (sym begun.waits) at)

  pub on_began_unrecorded : {calls : List RoutedCall} {trail : List Attempt} {mid : KeysState}
      {adds : List Interaction} → NextBegun config old calls (step.Tried trail) mid
      → new ≡ with_loss mid
      → adds ≡ map Made calls ++ Noted trail ∷ [] → KeysSoFar config request new (done ++ adds)
  on_began_unrecorded {calls} {trail} {mid} {adds} it same are =
      let begun = it.begun in
      let at : IsSlotAt config request it.key mid.came false (wait_at begun.at) true it.slot adds =
      goes_unrecorded config request it.key mid.came begun.at it.slot calls trail
      (begun_goes request it.key it.slot begun (asked_alone s it.key))
      (begun.aims it.key (retrieval_keys (it.key ∷ []) old.unique)) begun.says are in
      let on = next_step s.ready it in
      subst (λ (k : KeysState). KeysSoFar config request k (done ++ adds)) (sym same)
      (pushed_on {new = with_loss mid} s it.key it.left adds it.next
      (ap (λ (k : KeysState). k.left) it.state) (ap (λ (k : KeysState). k.unique) it.state)
      (ap (λ (k : KeysState). k.slots) it.state) (ap (λ (k : KeysState). k.came) it.state)
      (inr refl) (lost_step on)
      (subst (λ w. IsSlotAt config request it.key mid.came false w true it.slot adds)
      (sym begun.waits) at))

  pub on_begin_lost : {calls : List RoutedCall} {attempts : List Attempt} {adds : List Interaction}
      → NextLost config old calls attempts new → adds ≡ map Made calls ++ marks_of attempts
      → KeysSoFar config request new (done ++ adds)
  on_begin_lost {calls} {attempts} {adds} (driven.unbegun none no_attempts is) are =
      let nothing : adds ≡ [] = are ∙ rw (none, no_attempts) refl in
      subst (λ xs. KeysSoFar config request new (done ++ xs)) (sym nothing)
      (subst (KeysSoFar config request new) (sym (append-nil done)) (lost_so_far s is))
  on_begin_lost {calls} {attempts} {adds} (driven.at_next key left slot may next lost ended is)
      are =
      let lost_now : new.lost ≡ true = ap (λ (k : KeysState). k.lost) is in
      let over_it : IsKeyOver config request key adds =
      key_over old.unique (asked_alone s key) lost are in
      let at : IsSlotAt config request key new.came false slot.awaited new.lost slot adds =
      subst (λ w. IsSlotAt config request key new.came false w new.lost slot adds) (sym ended)
      (subst (λ l. IsSlotAt config request key new.came false None l slot adds)
      (sym lost_now) over_it) in
      pushed_on s key left adds next (ap (λ (k : KeysState). k.left) is)
      (ap (λ (k : KeysState). k.unique) is)
      (ap (λ (k : KeysState). k.slots) is) (ap (λ (k : KeysState). k.came) is) (inr lost_now)
      (next_lost_step s.ready left slot may ended is) at

  pub on_took : {calls : List RoutedCall} {said : KeyStep} {adds : List Interaction}
      → (it : FirstTaken config old calls said new)
      → adds ≡ map Made calls ++ key_record said → KeysSoFar config request new (done ++ adds)
  on_took {calls} {said} {adds} it are =
      let part = it.taken in
      let taken = part.taken in
      let same : taken.awaited ≡ part.awaited =
      same_Some taken.awaited part.awaited (sym taken.out ∙ part.out) in
      set_on s it.places it.slot part.awaited it.left adds it.first it.was part.out part.leaves
      (ap (λ (k : KeysState). k.came) it.state)
      (ap (λ (k : KeysState). k.left) it.state) (ap (λ (k : KeysState). k.unique) it.state)
      (ap (λ (k : KeysState). k.slots) it.state) (inl (ap (λ (k : KeysState). k.lost) it.state))
      (taken_step s.ready it)
      (λ key was here.
      let comes : ComesTo (Some part.part) old.came.reply part.awaited it.slot here.adds =
      subst (λ p. ComesTo p old.came.reply part.awaited it.slot here.adds) part.is_part
      here.comes in
      let last : adds ≡ map Made calls ++ key_record (key_step taken.at) =
      are ∙ ap (λ x. map Made calls ++ key_record x) taken.says in
      subst (λ w. IsSlotAt config request key new.came false w new.lost it.after (was ++ adds))
      (sym taken.waits)
      (goes_at config request key new.came taken.at it.after
      (all_calls it.slot part.awaited part.part old.came.reply here.out.calls calls) new.lost
      (taken_goes request key it.slot it.after taken same here.out) (taken.same ∙ here.out.aims)
      (glued was here.before adds (key_record (key_step taken.at)) here.out.calls
      (told_of part.awaited part.part old.came.reply) calls _ here.out.are
      (here.are ∙ ap (λ xs. here.before ++ xs) comes) last)))

  pub on_took_unrecorded : {calls : List RoutedCall} {trail : List Attempt} {mid : KeysState}
      {adds : List Interaction} → (it : FirstTaken config old calls (step.Tried trail) mid)
      → new ≡ with_loss mid → adds ≡ map Made calls ++ Noted trail ∷ []
      → KeysSoFar config request new (done ++ adds)
  on_took_unrecorded {calls} {trail} {mid} {adds} it gone are =
      let part = it.taken in
      let taken = part.taken in
      let same : taken.awaited ≡ part.awaited =
      same_Some taken.awaited part.awaited (sym taken.out ∙ part.out) in
      subst (λ (k : KeysState). KeysSoFar config request k (done ++ adds)) (sym gone)
      (set_on {new = with_loss mid} s it.places it.slot part.awaited it.left adds it.first it.was
      part.out part.leaves (ap (λ (k : KeysState). k.came) it.state)
      (ap (λ (k : KeysState). k.left) it.state) (ap (λ (k : KeysState). k.unique) it.state)
      (ap (λ (k : KeysState). k.slots) it.state) (inr refl) (lost_step (taken_step s.ready it))
      (λ key was here.
      let comes : ComesTo (Some part.part) old.came.reply part.awaited it.slot here.adds =
      subst (λ p. ComesTo p old.came.reply part.awaited it.slot here.adds) part.is_part
      here.comes in
      subst (λ w. IsSlotAt config request key mid.came false w true it.after (was ++ adds))
      (sym taken.waits)
      (goes_unrecorded config request key mid.came taken.at it.after
      (all_calls it.slot part.awaited part.part old.came.reply here.out.calls calls) trail
      (taken_goes request key it.slot it.after taken same here.out)
      (taken.same ∙ here.out.aims) taken.says
      (glued was here.before adds (Noted trail ∷ []) here.out.calls
      (told_of part.awaited part.part old.came.reply) calls _ here.out.are
      (here.are ∙ ap (λ xs. here.before ++ xs) comes) are))))

  pub on_take_lost : {calls : List RoutedCall} {attempts : List Attempt} {adds : List Interaction}
      → FirstLost config old calls attempts new
      → adds ≡ map Made calls ++ Noted attempts ∷ [] → KeysSoFar config request new (done ++ adds)
  on_take_lost {calls} {attempts} {adds} it are =
      let lost_now : new.lost ≡ true = ap (λ (k : KeysState). k.lost) it.state in
      let out = waits_at it.lost in
      let leaves = leaves_at old it.lost in
      set_on s it.places it.slot out.0 it.left adds it.first it.was out.1 leaves.0
      (ap (λ (k : KeysState). k.came) it.state)
      (ap (λ (k : KeysState). k.left) it.state) (ap (λ (k : KeysState). k.unique) it.state)
      (ap (λ (k : KeysState). k.slots) it.state) (inr lost_now) (taken_lost_step s.ready it)
      (λ key was here.
      subst (λ w. IsSlotAt config request key new.came false w new.lost it.after (was ++ adds))
      (sym leaves.1)
      (subst (λ l. IsSlotAt config request key new.came false None l it.after (was ++ adds))
      (sym lost_now)
      (dropped_over config request old key out.0 out.1 it.lost are here)))
