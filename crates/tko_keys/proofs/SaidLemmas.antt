-- What is known of a key before a call of it, and what the call says of it.
use Rattle.std.proofs.Common.{◌≡◌, ℕ, Bool, true, false, List, [], ◌∷◌, ◌++◌, cond, Option, Some}
use Rattle.std.proofs.Common.{None, Ok, refl, sym, ap, subst, ◌∙◌, inl, inr}
use Rattle.std.specs.Prelude.{◌⊎◌, All, slice_get}
use Rattle.std.proofs.lemmas.List.Elements.{All-head}
use Rattle.std.proofs.lemmas.Option.{same_Some}
use Rattle.tko_text.specs.declared.request.Request.{Request}
use Rattle.tko_links.specs.declared.links.Outcome.{Outcome}
use Rattle.tko_pools.specs.Configs.{AreServers, Configuration}
use Rattle.tko_route.specs.Calls.{RoutedCall, came}
use Rattle.tko_route.specs.Underway.{Awaited}
use Rattle.tko_route.specs.declared.attempt.Attempt.{Attempt}
use Rattle.tko_route.specs.declared.routing.Stage.{Stage}
use Rattle.tko_reply.specs.Asking.{Goes, course_of}
use Rattle.tko_reply.specs.Sends.{IsSent}
use Rattle.tko_reply.specs.Standing.{asking, one_of}
use Rattle.tko_reply.specs.declared.asking.OneKey.{OneKey}
use Rattle.tko_reply.proofs.HeldLemmas.{goes_awaits}
use Rattle.tko_route.specs.declared.routing.Stage.TheVariants as stage
use Rattle.tko_reply.specs.declared.asking.ReplyPart.TheVariants as share
use Rattle.tko_keys.specs.declared.step.KeyStep.{KeyStep}
use Rattle.tko_keys.specs.KeysDriven.{AreUnderWay, IsOutAt, failed_with}
use Rattle.tko_keys.specs.KeysState.{KeySlot, KeysCame, KeysState, has_failed}
use Rattle.tko_keys.specs.SlotCalls.{CanGoOn, IsSlotOut, PartDropped, SlotBegun, SlotTaken}
use Rattle.tko_keys.specs.SlotCalls.{key_step, wait_at}
use Rattle.tko_keys.specs.SlotCalls as calls
use Rattle.tko_keys.proofs.ReadyLemmas.{IsSaid}

-- where a key is due, it is asked for alone, and has no response
says_of : (config : Configuration) (at : Stage) (slot : KeySlot) (one : OneKey) (original : Request)
    (calls : List RoutedCall) (was : List ℕ)
    → Goes (course_of config slot.targets one original) calls was at slot.key slot.outbox
    → one.share ≡ share.Joined 0 [] → was ≡ [] → AreServers config slot.targets
    → slot.awaited ≡ wait_at at → IsSaid config slot (key_step at)
says_of config (stage.Away clear got) slot one original calls was goes apart empty within waits =
    let sent : IsSent config slot.targets (asking got slot.key) =
    goes_awaits one config original within goes in (
      got,
      record {
        out = waits;
        sent = sent;
        apart = ap (λ (o : OneKey). o.share) goes.settles.0 ∙ apart;
        empty = goes.settles.1 ∙ empty;
      },
      sym goes.reached.1,
    )
says_of config (stage.Done trail) slot one original calls was goes apart empty within waits = waits

pub begun_said : {config : Configuration} {request : Request} {calls : List RoutedCall}
    {said : KeyStep} (slot : KeySlot) → SlotBegun config request calls said slot
    → IsSaid config slot said
begun_said {config} {request} {calls} slot it =
    subst (IsSaid config slot) (sym it.says)
    (says_of config it.at slot (one_of request) _ calls [] it.goes refl refl it.within it.waits)

pub taken_said : {config : Configuration} {outcome : Outcome} {calls : List RoutedCall}
    {said : KeyStep} (old new : KeySlot) (it : SlotTaken config outcome old calls said new)
    → IsSlotOut config old it.awaited → IsSaid config new said
taken_said {config} {outcome} {calls} old new it was =
    let original = was.sent.original in
    let all = was.sent.calls ++ came it.awaited.server old.key.request (Ok outcome) ∷ calls in
    let goes : Goes (course_of config old.targets old.key original) all old.outbox it.at new.key
    new.outbox =
    it.goes original was.sent.calls was.sent.form was.sent.found in
    subst (IsSaid config new) (sym it.says)
    (says_of config it.at new old.key original all old.outbox
    (subst (λ ts. Goes (course_of config ts old.key original) all old.outbox it.at new.key
    new.outbox) (sym it.same) goes)
    was.apart was.empty (subst (AreServers config) (sym it.same) was.sent.out.within) it.waits)

failed_by_test : (test failed : Bool) → cond test true failed ≡ true
    → (failed ≡ true) ⊎ (test ≡ true)
failed_by_test true failed is = inr refl
failed_by_test false failed is = inl is

-- the failure of one key more
pub failed_more : (slot : KeySlot) (failed : Bool) → failed_with slot failed ≡ true
    → (failed ≡ true) ⊎ (has_failed slot ≡ true)
failed_more slot failed is = failed_by_test (has_failed slot) failed is

module _ {config : Configuration} {old : KeysState} (ready : AreUnderWay config old) where
  -- the key of a place that something came for is out
  pub out_first : (place : ℕ) (places : List ℕ) (slot : KeySlot) (awaited : Awaited)
      → old.came.places ≡ place ∷ places → slice_get old.slots place ≡ Some slot
      → slot.awaited ≡ Some awaited
      → IsSlotOut config slot awaited
  out_first place places slot awaited first at is =
      let out = All-head (IsOutAt config old.slots) place places
      (subst (All (IsOutAt config old.slots)) first ready.came.each) in
      let same : out.slot ≡ slot = same_Some out.slot slot (sym out.at ∙ at) in
      let here : IsSlotOut config slot out.awaited =
      subst (λ (k : KeySlot). IsSlotOut config k out.awaited) same out.is in
      subst (IsSlotOut config slot) (same_Some out.awaited awaited (sym here.out ∙ is)) here

  pub dropped_facts : {places : List ℕ} {slot after : KeySlot} {left : KeysCame}
      {calls : List RoutedCall} {attempts : List Attempt}
      → PartDropped config (record old.came { places = places }) slot calls attempts left after
      → (awaited : Awaited) × (slot.awaited ≡ Some awaited)
      × (left ≡ record old.came { places = places; outcome = left.outcome }) × CanGoOn left
      × (after.awaited ≡ None)
  dropped_facts (calls.in_call part awaited is_part out dropped leaves) =
      (awaited, out, leaves.same, leaves.goes_on ready.came.replied, dropped.ended)
  dropped_facts {places} {left = left} (calls.before awaited out none tried same gone) = (
    awaited,
    out,
    same ∙ ap (λ (o : Option Outcome). record old.came { places = places; outcome = o })
        (sym (ap (λ (k : KeysCame). k.outcome) same)),
    subst CanGoOn (sym same) ready.came.replied,
    ap (λ (k : KeySlot). k.awaited) gone,
  )
