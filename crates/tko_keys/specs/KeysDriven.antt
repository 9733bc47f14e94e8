-- The keys of a request as a value that is driven: what each of its calls makes of its state, over
-- the calls of health that it makes.
use Rattle.std.specs.Prelude.{◌≡◌, ◌≤◌, ◌<◌, ◌+◌, ◌==◌, ◌↔◌, ℕ, Bool, true, false, List, [], ◌∷◌}
use Rattle.std.specs.Prelude.{◌++◌, All, IsSome, Option, Some, None, count_by, is_some, length, map}
use Rattle.std.specs.Prelude.{slice_get, slice_set, if◌then◌else◌, drop, suc}
use Rattle.tko_model.specs.declared.mark.Reply.{Reply}
use Rattle.tko_links.specs.declared.links.Outcome.{Outcome}
use Rattle.tko_pools.specs.Configs.{Configuration}
use Rattle.tko_route.specs.Calls.{RoutedCall, Told}
use Rattle.tko_route.specs.Trail.{op_of, record_of}
use Rattle.tko_route.specs.Underway.{Awaited}
use Rattle.tko_route.specs.declared.attempt.Attempt.{Attempt}
use Rattle.tko_reply.specs.Answering.{retrieval}
use Rattle.tko_reply.specs.Cuts.{KeyLost}
use Rattle.tko_keys.specs.declared.plan.Grouping.{Grouping}
use Rattle.tko_keys.specs.declared.plan.Grouping.TheVariants.{ByServer}
use Rattle.tko_keys.specs.declared.step.KeyStep.{KeyStep}
use Rattle.tko_keys.specs.declared.step.KeyStep.TheVariants as step
use Rattle.tko_keys.specs.SlotCalls.{CanGoOn, IsSlotOut, PartDropped, PartTaken, SlotBegun}
use Rattle.tko_keys.specs.KeysState.{DueKey, KeySend, KeySlot, KeysCame, KeysState, MayBegin}
use Rattle.tko_keys.specs.KeysState.{first_send, has_failed, places_out, values_ahead}
use Rattle.tko_keys.specs.KeysState.{without_first}
use Rattle.tko_keys.specs.Lines.{AreDistinctKeys, IsLineFull, IsSentBy, Picks, key_at}

abbrev pub due : ℕ → ℕ → DueKey
due place server = record { place = place; server = server }

-- the key of a place is due at a server where a call said so of it
abbrev pub due_by : ℕ → KeyStep → List DueKey
due_by place (step.Due server) = due place server ∷ []
due_by place (step.Tried trail) = []

-- whether one of the keys got no list of values
abbrev pub failed_with : KeySlot → Bool → Bool
failed_with slot failed = if has_failed slot then true else failed

-- the keys where memory ran out for one: no other key is begun
abbrev pub with_loss : KeysState → KeysState
with_loss old = record old { lost = true }

-- the keys where the next one was begun and came to this
abbrev pub with_next : KeySlot → List (List ℕ) → KeyStep → KeysState → KeysState
with_next slot left said old = record old {
  left = left;
  slots = old.slots ++ slot ∷ [];
  due = old.due ++ due_by (length old.slots) said;
  failed = failed_with slot old.failed;
}

-- what came of a request is there for its keys
abbrev pub keys_came_of : KeySend → Option Outcome → Option Reply → KeysCame
keys_came_of send outcome reply = record {
  places = send.places;
  shared = is_some send.line;
  outcome = outcome;
  reply = reply;
}

-- the same for the keys of these places
abbrev pub others_of : List ℕ → KeysCame → KeysCame
others_of places came = record came { places = places }

-- the keys where what came for the key of a place was taken, and it came to this
abbrev pub with_taken : ℕ → KeySlot → KeyStep → KeysCame → KeysState → KeysState
with_taken place slot said came old = record old {
  slots = slice_set old.slots place slot;
  due = old.due ++ due_by place said;
  came = came;
  failed = failed_with slot old.failed;
}

-- the same where memory ran out for it
abbrev pub with_dropped : ℕ → KeySlot → KeysCame → KeysState → KeysState
with_dropped place slot came old =
    with_loss (record old { slots = slice_set old.slots place slot; came = came })

-- how many times a key is due, under way or not taken on: once, or not at all
abbrev pub outs_by : Option Awaited → ℕ
outs_by None = 0
outs_by (Some awaited) = 1

abbrev pub outs_in : Option KeySlot → ℕ
outs_in None = 0
outs_in (Some slot) = outs_by slot.awaited

abbrev pub outs_at : List KeySlot → ℕ → ℕ
outs_at slots place = outs_in (slice_get slots place)

-- a key got no list of values
pub record HasKeyFailed (slots : List KeySlot) : Type 0 where
  pub place : ℕ
  pub slot : KeySlot
  pub at : slice_get slots place ≡ Some slot
  pub is : has_failed slot ≡ true

-- the keys of one request have their parts of what came of it; without a line it is for one key
abbrev pub HaveParts : Bool → List (List ℕ) → Type 0
HaveParts true keys = AreDistinctKeys keys
HaveParts false keys = length keys ≤ 1

module _ (config : Configuration) where
  -- the key of a place is due at a server, or its request is under way there
  pub record IsDueAt (slots : List KeySlot) (it : DueKey) : Type 0 where
    pub slot : KeySlot
    pub awaited : Awaited
    pub at : slice_get slots it.place ≡ Some slot
    pub is : IsSlotOut config slot awaited
    pub server : awaited.server ≡ it.server

  -- a request is under way for such keys
  pub record IsSentAt (grouping : Grouping) (unique : Bool) (slots : List KeySlot) (send : KeySend)
      : Type 0 where
    pub each : All (λ place. IsDueAt slots (due place send.server)) send.places
    pub by : IsSentBy grouping unique slots send.places send.line

  -- a key of a place waits to be taken on
  pub record IsOutAt (slots : List KeySlot) (place : ℕ) : Type 0 where
    pub slot : KeySlot
    pub awaited : Awaited
    pub at : slice_get slots place ≡ Some slot
    pub is : IsSlotOut config slot awaited

  -- keys wait to be taken on, and what came for each of them is there, and was recorded
  pub record HaveCome (slots : List KeySlot) (came : KeysCame) : Type 0 where
    pub each : All (IsOutAt slots) came.places
    pub parts : HaveParts came.shared (map (key_at slots) came.places)
    pub replied : CanGoOn came

  -- What each call leaves for the next one: each key that has not ended is due, under way or not
  -- taken on, once, at most so many are, and the keys that were begun are at most so many places
  -- behind the first that got no list of values so far.
  pub record AreUnderWay (state : KeysState) : Type 0 where
    pub due : All (IsDueAt state.slots) state.due
    pub sent : All (IsSentAt state.plan.grouping state.unique state.slots) state.sends
    pub came : HaveCome state.slots state.came
    pub once : (place : ℕ)
        → count_by (λ other. other == place) (places_out state) ≡ outs_at state.slots place
    pub some : 0 < state.plan.most
    pub few : length (places_out state) ≤ state.plan.most
    pub near : length state.slots ≤ values_ahead state.slots + state.plan.most
    pub failed : state.failed ≡ true → HasKeyFailed state.slots

  -- the next key was begun
  pub record NextBegun (old : KeysState) (calls : List RoutedCall) (said : KeyStep)
      (new : KeysState) : Type 0 where
    pub may : MayBegin old
    pub key : List ℕ
    pub left : List (List ℕ)
    pub next : old.left ≡ key ∷ left
    pub slot : KeySlot
    pub begun : SlotBegun config (retrieval (key ∷ []) old.unique) calls said slot
    pub state : new ≡ with_next slot left said old

  -- memory ran out there: before the next key was begun; or at it, after these attempts
  pub data NextLost (old : KeysState) (calls : List RoutedCall) (attempts : List Attempt)
      (new : KeysState) : Type 0 where
    unbegun : calls ≡ [] → attempts ≡ [] → new ≡ with_loss old → NextLost old calls attempts new
    at_next : (key : List ℕ) (left : List (List ℕ)) (slot : KeySlot) → MayBegin old
        → old.left ≡ key ∷ left
        → KeyLost config (retrieval (key ∷ []) old.unique) calls attempts → slot.awaited ≡ None
        → new ≡ with_loss (record old { left = left; slots = old.slots ++ slot ∷ [] })
        → NextLost old calls attempts new

  -- the first key that was not taken on took its part of what came, and goes on
  pub record FirstTaken (old : KeysState) (calls : List RoutedCall) (said : KeyStep)
      (new : KeysState) : Type 0 where
    pub place : ℕ
    pub places : List ℕ
    pub first : old.came.places ≡ place ∷ places
    pub slot : KeySlot
    pub was : slice_get old.slots place ≡ Some slot
    pub after : KeySlot
    pub left : KeysCame
    pub taken : PartTaken config (others_of places old.came) slot calls said left after
    pub state : new ≡ with_taken place after said left old

  -- memory ran out there, and the key was dropped after these attempts
  pub record FirstLost (old : KeysState) (calls : List RoutedCall) (attempts : List Attempt)
      (new : KeysState) : Type 0 where
    pub place : ℕ
    pub places : List ℕ
    pub first : old.came.places ≡ place ∷ places
    pub slot : KeySlot
    pub was : slice_get old.slots place ≡ Some slot
    pub after : KeySlot
    pub left : KeysCame
    pub lost : PartDropped config (others_of places old.came) slot calls attempts left after
    pub state : new ≡ with_dropped place after left old

-- Keys that are due at a server go out to it in one request. Where memory was there for it, those
-- that stay due at it had no room.
pub record HasSent (server : ℕ) (short : Bool) (old new : KeysState) : Type 0 where
  pub send : KeySend
  pub stay : List DueKey
  pub to : send.server ≡ server
  pub picks : Picks server old.due send.places stay
  pub by : IsSentBy old.plan.grouping old.unique old.slots send.places send.line
  pub full : short ≡ false → old.plan.grouping ≡ ByServer
      → IsLineFull old.slots server (map (key_at old.slots) send.places) stay
  pub state : new ≡ record old { due = stay; sends = old.sends ++ send ∷ [] }

-- what came of the first request under way at a server was recorded, once, and is there for its
-- keys
pub record HasArrived (server : ℕ) (outcome : Outcome) (old : KeysState) (calls : List RoutedCall)
    (new : KeysState) : Type 0 where
  pub settled : old.came.places ≡ []
  pub send : KeySend
  pub reply : Option Reply
  pub first : first_send server old.sends ≡ Some send
  pub told : calls ≡ map Told (record_of server (op_of outcome) reply)
  pub replied : IsSome reply ↔ IsSome (op_of outcome)
  pub state : new ≡ record old {
    sends = without_first server old.sends;
    came = keys_came_of send (Some outcome) reply;
  }

-- memory ran out for the first request under way at a server, and its keys are to be dropped
pub record HasStopped (server : ℕ) (old new : KeysState) : Type 0 where
  pub settled : old.came.places ≡ []
  pub send : KeySend
  pub first : first_send server old.sends ≡ Some send
  pub state : new ≡ record old {
    sends = without_first server old.sends;
    came = keys_came_of send None None;
  }

-- the same of the last request under way at a server, which was not sent
pub record IsUnsent (server : ℕ) (old new : KeysState) : Type 0 where
  pub settled : old.came.places ≡ []
  pub send : KeySend
  pub before : List KeySend
  pub after : List KeySend
  pub are : old.sends ≡ before ++ send ∷ after
  pub meets : send.server ≡ server
  pub last : first_send server after ≡ None
  pub state : new ≡ record old { sends = before ++ after; came = keys_came_of send None None }

-- the last request under way at a server has this place among those under way
pub record IsLastAt (server : ℕ) (sends : List KeySend) (index : ℕ) : Type 0 where
  pub send : KeySend
  pub at : slice_get sends index ≡ Some send
  pub meets : send.server ≡ server
  pub last : first_send server (drop (suc index) sends) ≡ None
