-- Calls for the keys of a request that was handed over, and what is recorded after each, over the
-- parts that all clients of a worker share.
use Rattle.std.specs.Prelude.{◌≡◌, ◌≢◌, ◌==◌, ◌+◌, ℕ, Bool, true, false, List, [], ◌∷◌, ◌++◌, None}
use Rattle.std.specs.Prelude.{Option, Some, Result, Ok, Err, IfSome, IsSome}
use Rattle.tko_model.specs.Records.{Gains}
use Rattle.tko_links.specs.declared.links.ExchangeNoMemory.{ExchangeNoMemory}
use Rattle.tko_links.specs.declared.links.Outcome.{Outcome}
use Rattle.tko_pools.specs.Configs.{Configuration}
use Rattle.tko_route.specs.declared.attempt.Attempt.{Attempt}
use Rattle.tko_reply.specs.Ghosts.{PartsGhosts}
use Rattle.tko_reply.specs.Interactions.{Interaction, Interacts, Noted}
use Rattle.tko_reply.specs.declared.parts.Parts.{Parts}
use Rattle.tko_mux.specs.Awaits.{IsAsking, one_asked, one_if, times_due}
use Rattle.tko_keys.specs.KeysActs.{KeysAct, came_lost, came_parts, key_record}
use Rattle.tko_keys.specs.KeysDriven.{AreUnderWay, HasStopped, IsUnsent, with_loss}
use Rattle.tko_keys.specs.KeysState.{DueKey, KeySend, KeySlot, KeysState, asked_last}
use Rattle.tko_keys.specs.KeysState.{awaited_servers}
use Rattle.tko_keys.specs.KeysState.{first_send}
use Rattle.tko_keys.specs.declared.step.KeyStep.{KeyStep}
use Rattle.tko_keys.specs.declared.step.KeyStep.TheVariants as step
use Rattle.tko_client.specs.declared.calls.Went.{Went}
use Rattle.tko_client.specs.declared.calls.Went.TheVariants as went
use Rattle.tko_client.specs.Answerings.{AreSettled}
use Rattle.tko_client.specs.Steps.{server_asked_in}

-- where a call said that a key is due, one is
abbrev pub IsDueAfter : KeyStep → List DueKey → Type 0
IsDueAfter (step.Due server) due = due ≢ []
IsDueAfter (step.Tried trail) due = Unit {0}

-- a call for the keys asks a server, or more can be done
abbrev pub IsOfKeys : Went → Type 0
IsOfKeys (went.Asks server) = Unit {0}
IsOfKeys went.On = Unit {0}
IsOfKeys went.Waits = ⊥
IsOfKeys went.NeedsInput = ⊥
IsOfKeys went.Over = ⊥
IsOfKeys went.TooLong = ⊥
IsOfKeys went.Short = ⊥

-- the servers that requests are under way to, before and after one of them came to something: this
-- server once less, and the one that is asked then once more
abbrev pub TakesAt : ℕ → Option ℕ → List ℕ → List ℕ → Type 0
TakesAt server asked old new = (at : ℕ)
    → times_due new at + one_if (server == at) ≡ times_due old at + one_asked asked at

-- the request that is under way is the first to this server, or the last where it was not sent
abbrev pub IsSendOf : Bool → ℕ → List KeySend → KeySend → Type 0
IsSendOf false server sends send = first_send server sends ≡ Some send
IsSendOf true server sends send = (before after : List KeySend) × (sends ≡ before ++ send ∷ after)
    × (send.server ≡ server) × (first_send server after ≡ None)

-- memory ran out for that request
abbrev pub HasStoppedAs : Bool → ℕ → KeysState → KeysState → Type 0
HasStoppedAs false server old new = HasStopped server old new
HasStoppedAs true server old new = IsUnsent server old new

-- what came of a request for each of its keys: its part of the response, or else what came; or
-- memory ran out
abbrev pub came_by : Result Outcome ExchangeNoMemory → List KeySlot → KeySend → List Interaction
came_by (Ok outcome) slots send = came_parts outcome slots send
came_by (Err fault) slots send = came_lost fault.sent slots send

-- the keys of a request at a moment, and the parts
abbrev pub KeysOver : Type 0 → Type 0 → Type 0 → Type 0
KeysOver H T C = KeysState × Parts H (List ℕ) T C

-- what a call for the keys leaves: whom it asks, and that they can be called
pub record AreKeysLeft {H T C : Type 0} (went : Went) (old new : KeysOver H T C) : Type 0 where
  pub request : IfSome (server_asked_in went) (λ server. IsSome (asked_last new.0))
  pub goes : IsOfKeys went
  pub ready : AreSettled old.1.config new.0

module _ {H T C : Type 0} (ghosts : PartsGhosts H (List ℕ) T C) where
  -- what a call said is recorded; or could not be, and no other key is begun
  pub data IsKeyRecorded (said : KeyStep) (old new : KeysOver H T C) : Type 0 where
    recorded : new.0 ≡ old.0 → Gains (Interacts ghosts) old.1 (key_record said) new.1
        → IsKeyRecorded said old new
    unrecorded : (trail : List Attempt) → said ≡ step.Tried trail → new.0 ≡ with_loss old.0
        → Gains (Interacts ghosts) old.1 (Noted trail ∷ []) new.1 → IsKeyRecorded said old new

  -- an act for the keys, and what it does to the parts
  abbrev pub DoesForKeys : Configuration → KeysOver H T C → List Interaction → KeysOver H T C
      → Type 0
  DoesForKeys config old done new =
      KeysAct config old.0 done new.0 × Gains (Interacts ghosts) old.1 done new.1

  -- a call was made for the keys
  pub record HasKeyCall (went : Went) (old new : KeysOver H T C) : Type 0 where
    pub done : List Interaction
    pub act : DoesForKeys old.1.config old done new
    pub asks : IsAsking (server_asked_in went) (awaited_servers old.0) (awaited_servers new.0)
    pub left : AreKeysLeft went old new

  -- the first key that something came for was taken on
  pub record HasKeyGoneOn (old new : KeysOver H T C) : Type 0 where
    pub done : List Interaction
    pub act : DoesForKeys old.1.config old done new
    pub place : ℕ
    pub places : old.0.came.places ≡ place ∷ new.0.came.places
    pub sends : new.0.sends ≡ old.0.sends
    pub ready : AreUnderWay old.1.config new.0

  -- acts for the keys
  pub record HaveActedForKeys (config : Configuration) (old new : KeysOver H T C) : Type 0 where
    pub calls : List (List Interaction)
    pub gains : Gains (DoesForKeys config) old calls new

  -- all keys that something came for were taken on
  pub record HaveGoneOn (old new : KeysOver H T C) : Type 0 where
    pub acted : HaveActedForKeys old.1.config old new
    pub sends : new.0.sends ≡ old.0.sends
    pub ready : AreSettled old.1.config new.0

  -- acts of which the first is that this came of a request under way
  pub record HaveActedOnOutcome (unsent : Bool) (server : ℕ)
      (result : Result Outcome ExchangeNoMemory) (old new : KeysOver H T C) : Type 0 where
    pub send : KeySend
    pub is : IsSendOf unsent server old.0.sends send
    pub then : List Interaction
    pub calls : List (List Interaction)
    pub gains : Gains (DoesForKeys old.1.config) old
        ((came_by result old.0.slots send ++ then) ∷ calls) new
    pub takes : TakesAt server None (awaited_servers old.0) (awaited_servers new.0)
    pub ready : AreSettled old.1.config new.0
