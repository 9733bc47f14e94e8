-- What the calls of one key among several make of it.
use Rattle.std.proofs.Common.{◌≡◌, ℕ, List, [], ◌++◌, Option, Some, None, Err, Ok, Result, refl}
use Rattle.std.proofs.Common.{sym, ap, subst, ◌∙◌}
use Rattle.std.specs.Prelude.{IfErr}
use Rattle.std.proofs.lemmas.Option.{same_Some}
use Rattle.tko_model.specs.declared.mark.Reply.{Reply}
use Rattle.tko_model.specs.Records.{HealthItem}
use Rattle.tko_model.proofs.RecordLemmas.{gains_none}
use Rattle.tko_links.specs.declared.links.Outcome.{Outcome}
use Rattle.tko_pools.specs.Configs.{AreServers, Configuration}
use Rattle.tko_route.specs.Calls.{RoutedCall}
use Rattle.tko_route.specs.Routing.{GoesOn, told_of}
use Rattle.tko_route.specs.Trail.{form_at}
use Rattle.tko_route.specs.Underway.{Awaited}
use Rattle.tko_route.specs.declared.attempt.Attempt.{Attempt}
use Rattle.tko_route.specs.declared.routing.Stage.{Stage}
use Rattle.tko_route.specs.declared.routing.Stage.TheVariants as stage
use Rattle.tko_text.specs.declared.request.Request.{Request}
use Rattle.tko_text.specs.SentRequests.{without_noreply}
use Rattle.tko_reply.specs.Asking.{Goes, GoesTo, course_of}
use Rattle.tko_reply.specs.Cuts.{EndsBy}
use Rattle.tko_reply.specs.Sends.{AfterSend}
use Rattle.tko_reply.specs.Standing.{asking, one_of}
use Rattle.tko_reply.specs.declared.asking.OneKey.{OneKey}
use Rattle.tko_keys.specs.KeysState.{KeySlot, KeysCame}
use Rattle.tko_keys.specs.Lines.{key_of, part_for_key}
use Rattle.tko_keys.specs.SlotCalls.{IsAnyOut, IsLeftForOthers, PartDropped, PartTaken, SlotBegun}
use Rattle.tko_keys.specs.SlotCalls.{SlotDropped, SlotTaken, key_step, wait_at}
use Rattle.tko_keys.specs.SlotCalls as calls
use Rattle.tko_keys.specs.Steps.{said_by, slot_step}
use Rattle.tko_keys.specs.declared.step.KeyStep.{KeyStep}
use Rattle.tko_keys.specs.declared.step.SlotStep.{SlotStep}

-- what is reached so is reached in other words
pub went_so : {H : Type 0} {steps : H → HealthItem → H → Type 0} {old new : H}
    {P Q : List RoutedCall → Type 0}
    → GoesOn steps old P new → ((calls : List RoutedCall) → P calls → Q calls)
    → GoesOn steps old Q new
went_so on say = record { items = on.items; gains = on.gains; is = say _ on.is }

abbrev slot_of : OneKey → List ℕ → List ℕ → Stage → KeySlot
slot_of key targets outbox at =
    record { key = key; targets = targets; outbox = outbox; awaited = wait_at at }

abbrev whole : OneKey → List ℕ → List ℕ → Option Awaited → KeySlot
whole key targets outbox awaited =
    record { key = key; targets = targets; outbox = outbox; awaited = awaited }

said_at : (at : Stage) → said_by (slot_step at) ≡ key_step at
said_at (stage.Away clear awaited) = refl
said_at (stage.Done trail) = refl

module _ {H : Type 0} {steps : H → HealthItem → H → Type 0} {health health' : H}
    {config : Configuration} {at : Stage} {step : SlotStep} {new : KeySlot} where
  -- a key was begun
  pub slot_begun : {one key : OneKey} {was outbox targets : List ℕ} (request : Request)
      → one ≡ one_of request → was ≡ []
      → GoesOn steps health (λ calls. Goes
      (course_of config targets one (without_noreply one.request)) calls was at key outbox) health'
      → GoesTo config one.request targets → AreServers config targets
      → new ≡ slot_of key targets outbox at → step ≡ slot_step at
      → GoesOn steps health (λ calls. SlotBegun config request calls (said_by step) new) health'
  slot_begun {one} {key} {was} {outbox} {targets} request is empty on aims within state says =
      let on' : GoesOn steps health
      (λ calls. Goes (course_of config targets (one_of request) (without_noreply request)) calls
      [] at key outbox) health' =
      subst (λ (o : OneKey). GoesOn steps health
      (λ calls. Goes (course_of config targets o (without_noreply o.request)) calls [] at key
      outbox) health') is
      (subst (λ xs. GoesOn steps health
      (λ calls. Goes (course_of config targets one (without_noreply one.request)) calls
      xs at key outbox) health') empty on) in
      let aims' : GoesTo config request targets =
      subst (λ (o : OneKey). GoesTo config o.request targets) is aims in
      let said : said_by step ≡ key_step at = ap said_by says ∙ said_at at in
      subst (λ s. GoesOn steps health
      (λ calls. SlotBegun config request calls (said_by step) s) health') (sym state)
      (went_so on' (λ calls goes.
      record {
        at = at;
        goes = goes;
        aims = aims';
        within = within;
        waits = refl;
        says = said;
      }))

  -- what came of a send, which was recorded, takes a key on
  pub slot_taken : {one key : OneKey} {was outbox targets targets' : List ℕ} {kept : Option Awaited}
      {awaited : Awaited} (outcome : Outcome) (reply : Option Reply) (old : KeySlot)
      → whole one targets was kept ≡ old → kept ≡ Some awaited → targets' ≡ targets
      → GoesOn steps health (λ more. AfterSend config (asking awaited one) outcome
      (λ original before. Goes
      (course_of config targets' one original)
      (before (told_of awaited outcome reply ++ more)) was at key outbox)) health'
      → new ≡ slot_of key targets outbox at → step ≡ slot_step at
      → GoesOn steps health (λ more. (it : Awaited) → old.awaited ≡ Some it
      → SlotTaken config outcome old (told_of it outcome reply ++ more) (said_by step) new) health'
  slot_taken {one} {key} {was} {outbox} {targets} {targets'} {kept} {awaited} outcome reply old is
      out aims on state says =
      let old' = whole one targets was kept in
      let said : said_by step ≡ key_step at = ap said_by says ∙ said_at at in
      let on' : GoesOn steps health
      (λ more. AfterSend config (asking awaited one) outcome (λ original before. Goes
      (course_of config targets one original)
      (before (told_of awaited outcome reply ++ more)) was at key outbox)) health' =
      subst (λ ts. GoesOn steps health
      (λ more. AfterSend config (asking awaited one) outcome (λ original before. Goes
      (course_of config ts one original)
      (before (told_of awaited outcome reply ++ more)) was at key outbox)) health') aims on in
      let done : GoesOn steps health (λ more. (it : Awaited) → kept ≡ Some it
      → SlotTaken config outcome old' (told_of it outcome reply ++ more) (said_by step)
      (slot_of key targets outbox at)) health' =
      went_so on' (λ more goes it that.
      subst (λ (w : Awaited). SlotTaken config outcome old' (told_of w outcome reply ++ more)
      (said_by step) (slot_of key targets outbox at)) (same_Some awaited it (sym out ∙ that))
      (record {
        awaited = awaited;
        out = out;
        at = at;
        goes = goes;
        same = refl;
        waits = refl;
        says = said;
      })) in
      subst (λ (s : KeySlot). GoesOn steps health (λ more. (it : Awaited) → s.awaited ≡ Some it
      → SlotTaken config outcome s (told_of it outcome reply ++ more) (said_by step) new)
      health') is
      (subst (λ s. GoesOn steps health (λ more. (it : Awaited) → kept ≡ Some it
      → SlotTaken config outcome old' (told_of it outcome reply ++ more) (said_by step) s)
      health') (sym state) done)

module _ {H : Type 0} {steps : H → HealthItem → H → Type 0} {health health' : H}
    {config : Configuration} where
  -- memory ran out there
  pub slot_dropped : {one : OneKey} {was targets targets' : List ℕ} {kept : Option Awaited}
      {awaited : Awaited} {attempts : List Attempt} {new : KeySlot}
      (outcome : Outcome) (reply : Option Reply) (old : KeySlot) → whole one targets was kept ≡ old
      → kept ≡ Some awaited → targets' ≡ targets
      → GoesOn steps health (λ more. AfterSend config (asking awaited one) outcome
      (λ original before. EndsBy
      targets' (form_at config.failover_exptime original)
      (before (told_of awaited outcome reply ++ more)) attempts)) health'
      → new.awaited ≡ None
      → GoesOn steps health (λ more. (it : Awaited) → old.awaited ≡ Some it
      → SlotDropped config outcome old (told_of it outcome reply ++ more) attempts new) health'
  slot_dropped {one} {was} {targets} {targets'} {kept} {awaited} {attempts} {new} outcome reply old
      is out aims on ended =
      let old' = whole one targets was kept in
      let on' : GoesOn steps health
      (λ more. AfterSend config (asking awaited one) outcome (λ original before. EndsBy
      targets (form_at config.failover_exptime original)
      (before (told_of awaited outcome reply ++ more)) attempts)) health' =
      subst (λ ts. GoesOn steps health
      (λ more. AfterSend config (asking awaited one) outcome (λ original before. EndsBy
      ts (form_at config.failover_exptime original)
      (before (told_of awaited outcome reply ++ more)) attempts)) health') aims on in
      subst (λ (s : KeySlot). GoesOn steps health (λ more. (it : Awaited) → s.awaited ≡ Some it
      → SlotDropped config outcome s (told_of it outcome reply ++ more) attempts new) health')
      is
      (went_so on' (λ more lost it that.
      subst (λ (w : Awaited). SlotDropped config outcome old'
      (told_of w outcome reply ++ more) attempts new) (same_Some awaited it (sym out ∙ that))
      (record { awaited = awaited; out = out; ended = ended; lost = lost })))

  -- a key took its part of what came
  pub part_taken : {old new : KeySlot} {came left : KeysCame} {part : Outcome} {said : KeyStep}
      {reply : Option Reply} → IsAnyOut config old → reply ≡ came.reply
      → part_for_key came (key_of old) ≡ Some part → IsLeftForOthers (key_of old) came left
      → GoesOn steps health (λ more. (it : Awaited) → old.awaited ≡ Some it
      → SlotTaken config part old (told_of it part reply ++ more) said new) health'
      → GoesOn steps health (λ calls. PartTaken config came old calls said left new) health'
  part_taken {old} {new} {came} {left} {part} {said} any same is_part leaves on =
      went_so on (λ more taken. record {
        part = part;
        is_part = is_part;
        awaited = any.awaited;
        out = any.is.out;
        taken = subst (λ r. SlotTaken config part old (told_of any.awaited part r ++ more) said new)
            same (taken any.awaited any.is.out);
        leaves = leaves;
      })

  pub part_dropped : {old new : KeySlot} {came left : KeysCame} {part : Outcome}
      {attempts : List Attempt} {reply : Option Reply} → IsAnyOut config old → reply ≡ came.reply
      → part_for_key came (key_of old) ≡ Some part → IsLeftForOthers (key_of old) came left
      → GoesOn steps health (λ more. (it : Awaited) → old.awaited ≡ Some it
      → SlotDropped config part old (told_of it part reply ++ more) attempts new) health'
      → GoesOn steps health (λ calls. PartDropped config came old calls attempts left new) health'
  part_dropped {old} {new} {came} {left} {part} {attempts} any same is_part leaves on =
      went_so on (λ more dropped.
      calls.in_call part any.awaited is_part any.is.out
      (subst (λ r. SlotDropped config part old (told_of any.awaited part r ++ more) attempts new)
      same (dropped any.awaited any.is.out)) leaves)

-- memory ran out for its part
pub part_stopped : {H : Type 0} {steps : H → HealthItem → H → Type 0} {health : H}
    {config : Configuration} {old new : KeySlot} {came left : KeysCame} {attempts : List Attempt}
    → IsAnyOut config old → left ≡ came
    → ((awaited : Awaited) → old.awaited ≡ Some awaited → attempts ≡ awaited.attempts)
    → new ≡ record old { awaited = None }
    → GoesOn steps health (λ calls. PartDropped config came old calls attempts left new) health
part_stopped {health = health} any same tried gone = record {
  items = [];
  gains = gains_none health;
  is = calls.before any.awaited any.is.out refl (tried any.awaited any.is.out) same gone;
}

-- what is known where memory ran out, in other words
pub lost_so : {A E : Type 0} {P Q : E → Type 0} (it : Result A E) → IfErr it P
    → ((e : E) → P e → Q e) → IfErr it Q
lost_so (Ok value) known say = tt
lost_so (Err e) known say = say e known
