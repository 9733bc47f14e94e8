-- What the calls of one key among several make of it.
use Rattle.std.specs.Prelude.{◌≡◌, ◌≢◌, ◌++◌, ◌↔◌, ℕ, true, List, [], IfSome, IsSome, Option, Some}
use Rattle.std.specs.Prelude.{None}
use Rattle.tko_text.specs.declared.request.Request.{Request}
use Rattle.tko_text.specs.SentRequests.{without_noreply}
use Rattle.tko_links.specs.declared.links.Outcome.{Outcome}
use Rattle.tko_pools.specs.Configs.{AreServers, Configuration}
use Rattle.tko_route.specs.Calls.{RoutedCall}
use Rattle.tko_route.specs.Routing.{told_of}
use Rattle.tko_route.specs.Trail.{form_at, op_of}
use Rattle.tko_route.specs.Underway.{Awaited}
use Rattle.tko_route.specs.declared.attempt.Attempt.{Attempt}
use Rattle.tko_route.specs.declared.routing.Stage.{Stage}
use Rattle.tko_route.specs.declared.routing.Stage.TheVariants as stage
use Rattle.tko_reply.specs.Asking.{Goes, GoesTo, course_of}
use Rattle.tko_reply.specs.Cuts.{EndsBy}
use Rattle.tko_reply.specs.Sends.{AfterSend, IsSent}
use Rattle.tko_reply.specs.Standing.{asking, one_of}
use Rattle.tko_reply.specs.declared.asking.ReplyPart.TheVariants as share
use Rattle.tko_keys.specs.declared.step.KeyStep.{KeyStep}
use Rattle.tko_keys.specs.declared.step.KeyStep.TheVariants as step
use Rattle.tko_keys.specs.KeysState.{KeySlot, KeysCame}
use Rattle.tko_keys.specs.Lines.{key_of, part_for_key}

-- what a call says where a key came so far
abbrev pub key_step : Stage → KeyStep
key_step (stage.Away clear awaited) = step.Due clear
key_step (stage.Done trail) = step.Tried trail

-- what the key waits for there
abbrev pub wait_at : Stage → Option Awaited
wait_at (stage.Away clear awaited) = Some awaited
wait_at (stage.Done trail) = None

-- a key that is asked for by this request, before anything is done for it
abbrev pub fresh_slot : Request → KeySlot
fresh_slot request =
    record { key = one_of request; targets = []; outbox = []; awaited = None }

-- what came was recorded, by the table of outcomes
abbrev pub CanGoOn : KeysCame → Type 0
CanGoOn came = IfSome came.outcome (λ outcome. IsSome came.reply ↔ IsSome (op_of outcome))

-- what is left of what came, once the key took its part of it: the parts of all other keys
pub record IsLeftForOthers (key : List ℕ) (old new : KeysCame) : Type 0 where
  pub same : new ≡ record old { outcome = new.outcome }
  pub goes_on : CanGoOn old → CanGoOn new
  pub others : old.shared ≡ true → (other : List ℕ) → other ≢ key
      → part_for_key new other ≡ part_for_key old other

module _ (config : Configuration) where
  -- it is due at one of its targets, which are servers, or its request is under way there, and it
  -- has no response yet
  pub record IsSlotOut (slot : KeySlot) (awaited : Awaited) : Type 0 where
    pub out : slot.awaited ≡ Some awaited
    pub sent : IsSent config slot.targets (asking awaited slot.key)
    pub apart : slot.key.share ≡ share.Joined 0 []
    pub empty : slot.outbox ≡ []

  pub record IsAnyOut (slot : KeySlot) : Type 0 where
    pub awaited : Awaited
    pub is : IsSlotOut slot awaited

  -- it was asked for over its targets, which are servers
  pub record SlotBegun (request : Request) (calls : List RoutedCall) (said : KeyStep)
      (slot : KeySlot) : Type 0 where
    pub at : Stage
    pub goes : Goes (course_of config slot.targets (one_of request) (without_noreply request))
        calls [] at slot.key slot.outbox
    pub aims : GoesTo config request slot.targets
    pub within : AreServers config slot.targets
    pub waits : slot.awaited ≡ wait_at at
    pub says : said ≡ key_step at

  -- what came of its send was recorded
  pub record SlotTaken (outcome : Outcome) (old : KeySlot) (calls : List RoutedCall)
      (said : KeyStep) (new : KeySlot) : Type 0 where
    pub awaited : Awaited
    pub out : old.awaited ≡ Some awaited
    pub at : Stage
    pub goes : AfterSend config (asking awaited old.key) outcome (λ original before. Goes
        (course_of config old.targets old.key original) (before calls)
        old.outbox at new.key new.outbox)
    pub same : new.targets ≡ old.targets
    pub waits : new.awaited ≡ wait_at at
    pub says : said ≡ key_step at

  -- memory ran out there, after these attempts
  pub record SlotDropped (outcome : Outcome) (old : KeySlot) (calls : List RoutedCall)
      (attempts : List Attempt) (new : KeySlot) : Type 0 where
    pub awaited : Awaited
    pub out : old.awaited ≡ Some awaited
    pub ended : new.awaited ≡ None
    pub lost : AfterSend config (asking awaited old.key) outcome (λ original before. EndsBy
        old.targets (form_at config.failover_exptime original) (before calls) attempts)

  -- A key took its part of what came, which goes on so with what is left of that. The keys that
  -- share it keep their parts.
  pub record PartTaken (came : KeysCame) (old : KeySlot) (calls : List RoutedCall) (said : KeyStep)
      (left : KeysCame) (new : KeySlot) : Type 0 where
    pub part : Outcome
    pub is_part : part_for_key came (key_of old) ≡ Some part
    pub awaited : Awaited
    pub out : old.awaited ≡ Some awaited
    pub taken : SlotTaken part old (told_of awaited part came.reply ++ calls) said new
    pub leaves : IsLeftForOthers (key_of old) came left

  -- memory ran out there, after these attempts; or it ran out for the part, or before
  pub data PartDropped (came : KeysCame) (old : KeySlot) (calls : List RoutedCall)
      (attempts : List Attempt) (left : KeysCame) (new : KeySlot) : Type 0 where
    in_call : (part : Outcome) (awaited : Awaited) → part_for_key came (key_of old) ≡ Some part
        → old.awaited ≡ Some awaited
        → SlotDropped part old (told_of awaited part came.reply ++ calls) attempts new
        → IsLeftForOthers (key_of old) came left → PartDropped came old calls attempts left new
    before : (awaited : Awaited) → old.awaited ≡ Some awaited → calls ≡ []
        → attempts ≡ awaited.attempts → left ≡ came → new ≡ record old { awaited = None }
        → PartDropped came old calls attempts left new
