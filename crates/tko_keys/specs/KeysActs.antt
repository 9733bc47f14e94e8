-- What one call for the keys of a request, with what its driver records after it, adds to what was
-- done for the request.
use Rattle.std.specs.Prelude.{◌≡◌, ◌++◌, List, [], ◌∷◌, ℕ, Bool, Err, Ok, Option, Result, Some}
use Rattle.std.specs.Prelude.{None, flat_map, is_some, map, slice_get}
use Rattle.tko_links.specs.declared.links.ExchangeNoMemory.{ExchangeNoMemory}
use Rattle.tko_links.specs.declared.links.Outcome.{Outcome}
use Rattle.tko_pools.specs.Configs.{Configuration}
use Rattle.tko_route.specs.Calls.{RoutedCall, came}
use Rattle.tko_route.specs.declared.attempt.Attempt.{Attempt}
use Rattle.tko_reply.specs.Interactions.{Interaction, Made, Noted, Recorded, marks_of}
use Rattle.tko_reply.specs.TrailEvents.{Tried}
use Rattle.tko_keys.specs.declared.step.KeyStep.{KeyStep}
use Rattle.tko_keys.specs.declared.step.KeyStep.TheVariants as step
use Rattle.tko_keys.specs.AtOnce.{AskedKey}
use Rattle.tko_keys.specs.KeysDriven.{FirstLost, FirstTaken, HasArrived, HasSent, HasStopped}
use Rattle.tko_keys.specs.KeysDriven.{IsUnsent, NextBegun, NextLost, with_loss}
use Rattle.tko_keys.specs.KeysState.{KeySend, KeySlot, KeysState}
use Rattle.tko_keys.specs.Lines.{key_in_request, outcome_by}

-- what is recorded after a call that said this
abbrev pub key_record : KeyStep → List Interaction
key_record (step.Due server) = []
key_record (step.Tried trail) = Recorded (Tried trail) ∷ []

-- the keys of these places, each with its own request
abbrev pub asked_key_at : ℕ → Option KeySlot → List AskedKey
asked_key_at place None = []
asked_key_at place (Some slot) = record { place = place; request = slot.key.request } ∷ []

abbrev pub asked_keys : List KeySlot → List ℕ → List AskedKey
asked_keys slots places = flat_map (λ place. asked_key_at place (slice_get slots place)) places

-- what came of a request to a server for one of its keys
abbrev pub came_with : ℕ → (List ℕ → Result Outcome ExchangeNoMemory) → AskedKey → Interaction
came_with server result one = Made (came server one.request (result (key_in_request one.request)))

-- what came of it for each of them
abbrev pub came_each : (List ℕ → Result Outcome ExchangeNoMemory) → List KeySlot → KeySend
    → List Interaction
came_each result slots send =
    map (came_with send.server result) (asked_keys slots send.places)

-- a response or another outcome came for them: each has its part, where a line was made for several
abbrev pub came_parts : Outcome → List KeySlot → KeySend → List Interaction
came_parts outcome slots send =
    came_each (λ key. Ok (outcome_by (is_some send.line) key outcome)) slots send

-- memory ran out for them, once the request was sent or before
abbrev pub came_lost : Bool → List KeySlot → KeySend → List Interaction
came_lost was_sent slots send = came_each (λ key. Err (record { sent = was_sent })) slots send

-- One call, and what it adds: the next key was begun, and then its trail recorded where it ended;
-- keys that were due went out in one request; what came of the first request under way at a server
-- was recorded; a key took its part of that and went on, and then its trail was recorded where it
-- ended; a trail could not be recorded; or memory ran out in such a call, at the first request
-- under way at a server, or before the last one at a server was sent.
pub data KeysAct (config : Configuration) (old : KeysState) (adds : List Interaction)
    (new : KeysState) : Type 0 where
  began : (calls : List RoutedCall) (said : KeyStep) → NextBegun config old calls said new
      → adds ≡ map Made calls ++ key_record said → KeysAct config old adds new
  began_unrecorded : (calls : List RoutedCall) (trail : List Attempt) (mid : KeysState)
      → NextBegun config old calls (step.Tried trail) mid → new ≡ with_loss mid
      → adds ≡ map Made calls ++ Noted trail ∷ [] → KeysAct config old adds new
  begin_lost : (calls : List RoutedCall) (attempts : List Attempt)
      → NextLost config old calls attempts new → adds ≡ map Made calls ++ marks_of attempts
      → KeysAct config old adds new
  sent : (server : ℕ) (short : Bool) → HasSent server short old new → adds ≡ []
      → KeysAct config old adds new
  arrived : (server : ℕ) (outcome : Outcome) (calls : List RoutedCall)
      → (it : HasArrived server outcome old calls new)
      → adds ≡ came_parts outcome old.slots it.send ++ map Made calls
      → KeysAct config old adds new
  stopped : (server : ℕ) (was_sent : Bool) → (it : HasStopped server old new)
      → adds ≡ came_lost was_sent old.slots it.send → KeysAct config old adds new
  unsent : (server : ℕ) (was_sent : Bool) → (it : IsUnsent server old new)
      → adds ≡ came_lost was_sent old.slots it.send → KeysAct config old adds new
  took : (calls : List RoutedCall) (said : KeyStep) → FirstTaken config old calls said new
      → adds ≡ map Made calls ++ key_record said → KeysAct config old adds new
  took_unrecorded : (calls : List RoutedCall) (trail : List Attempt) (mid : KeysState)
      → FirstTaken config old calls (step.Tried trail) mid → new ≡ with_loss mid
      → adds ≡ map Made calls ++ Noted trail ∷ [] → KeysAct config old adds new
  take_lost : (calls : List RoutedCall) (attempts : List Attempt)
      → FirstLost config old calls attempts new → adds ≡ map Made calls ++ Noted attempts ∷ []
      → KeysAct config old adds new
