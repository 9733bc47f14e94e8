-- How far the keys of a request came, over what was done since it was recorded, place by place.
use Rattle.std.specs.Prelude.{◌≡◌, ◌<◌, ◌==◌, ℕ, Bool, true, false, List, [], ◌∷◌, ◌++◌, Err, Ok}
use Rattle.std.specs.Prelude.{Option, Some, None, length, map, slice_get}
use Rattle.std.specs.List.{list_any}
use Rattle.tko_model.specs.declared.mark.Reply.{Reply}
use Rattle.tko_links.specs.declared.links.Outcome.{Outcome}
use Rattle.tko_text.specs.declared.request.Request.{Request}
use Rattle.tko_pools.specs.Configs.{Configuration, targets_of}
use Rattle.tko_route.specs.Calls.{RoutedCall, came}
use Rattle.tko_route.specs.Routing.{FindsUp, IsAwaited, told_of}
use Rattle.tko_route.specs.Trail.{answer_of}
use Rattle.tko_route.specs.Underway.{Awaited}
use Rattle.tko_route.specs.declared.attempt.Attempt.{Attempt}
use Rattle.tko_reply.specs.Answering.{retrieval}
use Rattle.tko_reply.specs.Answers.{IsKeyRouted, form_in, request_for, request_keys}
use Rattle.tko_reply.specs.Asking.{Joins}
use Rattle.tko_reply.specs.Interactions.{Interaction, Made}
use Rattle.tko_reply.specs.Replies.{routed_key}
use Rattle.tko_reply.specs.declared.asking.ReplyPart.TheVariants as share
use Rattle.tko_keys.specs.AtOnce.{ArePlaced, IsKeyOver, PlacedInteraction, own_of}
use Rattle.tko_keys.specs.KeysDriven.{AreUnderWay}
use Rattle.tko_keys.specs.KeysState.{KeySlot, KeysCame, KeysState}
use Rattle.tko_keys.specs.Lines.{key_of, part_for_key}

-- a key of a request is asked for alone, and its calls found up the server that it waits for
pub record IsKeyOut (config : Configuration) (request : Request) (key : List ℕ) (awaited : Awaited)
    (slot : KeySlot) (done : List Interaction) : Type 0 where
  pub calls : List RoutedCall
  pub aims : slot.targets ≡ targets_of config key
  pub awaits : IsAwaited slot.targets awaited
  pub found : FindsUp (form_in config (request_for request key)) calls
      awaited.attempts awaited.server
  pub alone : slot.key ≡ record {
    request = form_in config (request_for request key) (length awaited.attempts);
    share = share.Joined 0 [];
  }
  pub empty : slot.outbox ≡ []
  pub are : done ≡ map Made calls

-- this came for the key that waits, and then the call that recorded it; or memory ran out for it
abbrev pub ComesTo : Option Outcome → Option Reply → Awaited → KeySlot → List Interaction → Type 0
ComesTo (Some part) reply awaited slot adds =
    adds ≡ Made (came awaited.server slot.key.request (Ok part))
    ∷ map Made (told_of awaited part reply)
ComesTo None reply awaited slot adds = (was_sent : Bool)
    × (adds ≡ Made (came awaited.server slot.key.request (Err (record { sent = was_sent }))) ∷ [])

-- the same key, once something came for it, which was not taken on
pub record IsKeyCame (config : Configuration) (request : Request) (key : List ℕ)
    (part : Option Outcome) (reply : Option Reply) (awaited : Awaited) (slot : KeySlot)
    (done : List Interaction) : Type 0 where
  pub before : List Interaction
  pub adds : List Interaction
  pub out : IsKeyOut config request key awaited slot before
  pub comes : ComesTo part reply awaited slot adds
  pub are : done ≡ before ++ adds

-- a key of a request was routed and its trail recorded; its values are in its outbox, or else its
-- whole response
pub record IsKeyEnded (config : Configuration) (request : Request) (key : List ℕ) (slot : KeySlot)
    (done : List Interaction) : Type 0 where
  pub trail : List Attempt
  pub routed : IsKeyRouted config request (routed_key key trail) done
  pub holds : Joins 0 [] (answer_of trail) [] slot.key.share slot.outbox

-- whether a key is to be taken on
abbrev pub is_to_take : ℕ → KeysCame → Bool
is_to_take place came = list_any (λ other. other == place) came.places

-- how far a key came that waits for this, where nothing came for it yet, or something did
abbrev pub IsAwaitedAt : Configuration → Request → List ℕ → KeysCame → Bool → Awaited → KeySlot
    → List Interaction → Type 0
IsAwaitedAt config request key came false awaited slot done =
    IsKeyOut config request key awaited slot done
IsAwaitedAt config request key came true awaited slot done =
    IsKeyCame config request key (part_for_key came (key_of slot)) came.reply awaited slot done

-- how far a key came, whether it waits or not; once memory ran out, responses are not told any more
abbrev pub IsSlotAt : Configuration → Request → List ℕ → KeysCame → Bool → Option Awaited → Bool
    → KeySlot → List Interaction → Type 0
IsSlotAt config request key came here (Some awaited) lost slot done =
    IsAwaitedAt config request key came here awaited slot done
IsSlotAt config request key came here None false slot done =
    IsKeyEnded config request key slot done
IsSlotAt config request key came here None true slot done = IsKeyOver config request key done

-- these keys of a request for several were begun, and each of them came so far by its own
-- interactions
pub record KeysSoFar (config : Configuration) (request : Request) (state : KeysState)
    (done : List Interaction) : Type 0 where
  pub several : 1 < length (request_keys request)
  pub ready : AreUnderWay config state
  pub begun : List (List ℕ)
  pub whole : request ≡ retrieval (begun ++ state.left) state.unique
  pub all : length begun ≡ length state.slots
  pub placed : List PlacedInteraction
  pub are_placed : ArePlaced state.plan.grouping (length state.slots) placed done
  pub each : (place : ℕ) (key : List ℕ) (slot : KeySlot) → slice_get begun place ≡ Some key
      → slice_get state.slots place ≡ Some slot
      → IsSlotAt config request key state.came (is_to_take place state.came) slot.awaited
      state.lost slot (own_of place placed)
