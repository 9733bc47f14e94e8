-- What is done for a request for several keys of which some are under way at once: what is done for
-- one key may stand between two interactions of another, and some keys may share a request to their
-- server. So each interaction has the place of its key in the request; only the call that records
-- what came of a shared request has several, directly after what came of it for each of its keys.
use Rattle.std.specs.Prelude.{◌≡◌, ◌<◌, ◌≤◌, ◌==◌, ℕ, Bool, true, false, List, [], ◌∷◌, ◌++◌, All}
use Rattle.std.specs.Prelude.{Ok, Option, Some, length, flat_map, map, slice_get}
use Rattle.tko_model.specs.declared.mark.Reply.{Reply}
use Rattle.tko_links.specs.declared.links.Outcome.{Outcome}
use Rattle.tko_text.specs.declared.request.Request.{Request}
use Rattle.tko_pools.specs.Configs.{Configuration, targets_of}
use Rattle.tko_route.specs.Calls.{RoutedCall, Told, came}
use Rattle.tko_route.specs.Routing.{FindsUp}
use Rattle.tko_route.specs.Trail.{IsCutTrail, next_target, op_of, record_of}
use Rattle.tko_route.specs.declared.attempt.Attempt.{Attempt}
use Rattle.tko_reply.specs.Answers.{IsKeyRouted, form_in, request_for, request_keys}
use Rattle.tko_reply.specs.Cuts.{IsKeyCut}
use Rattle.tko_reply.specs.Interactions.{Interaction, Made, Noted}
use Rattle.tko_reply.specs.Replies.{IsReply, RoutedKey, reply_written, routed_key}
use Rattle.tko_keys.specs.declared.plan.Grouping.{Grouping}
use Rattle.tko_keys.specs.declared.plan.Grouping.TheVariants.{ByServer}
use Rattle.tko_keys.specs.declared.plan.KeyPlan.{KeyPlan}
use Rattle.tko_keys.specs.Lines.{key_in_request, outcome_for}

-- a key of a request that was sent: its place, and its own request, as if it were asked for alone
pub record AskedKey : Type 0 where
  pub place : ℕ
  pub request : Request

-- what came of one request to a server for these keys, and the reply to the call that recorded it,
-- once, if there is one
pub record SharedSend : Type 0 where
  pub server : ℕ
  pub outcome : Outcome
  pub keys : List AskedKey
  pub reply : Option Reply

-- the call that recorded it
abbrev pub record_in : SharedSend → List Interaction
record_in it = map Made (map Told (record_of it.server (op_of it.outcome) it.reply))

-- what came of it for one of its keys: its part of the response, or else what came
abbrev pub came_for : SharedSend → AskedKey → Interaction
came_for it one =
    Made (came it.server one.request (Ok (outcome_for (key_in_request one.request) it.outcome)))

-- what was done for one key; or what came of a request that several keys share
pub data PlacedInteraction : Type 0 where
  Alone : (place : ℕ) (done : Interaction) → PlacedInteraction
  Shared : (it : SharedSend) → PlacedInteraction

-- the interactions that it stands for, in order
abbrev pub interactions_of : PlacedInteraction → List Interaction
interactions_of (Alone place done) = done ∷ []
interactions_of (Shared it) = map (came_for it) it.keys ++ record_in it

-- some interactions, if they are those of a place
abbrev pub if_here : Bool → List Interaction → List Interaction
if_here true items = items
if_here false items = []

-- of an entry, the interactions of the key at this place
abbrev pub own_in : ℕ → PlacedInteraction → List Interaction
own_in place (Alone at done) = if_here (at == place) (done ∷ [])
own_in place (Shared it) =
    flat_map (λ one. if_here (one.place == place) (came_for it one ∷ record_in it)) it.keys

unfoldable pub own_of : ℕ → List PlacedInteraction → List Interaction
own_of place placed = flat_map (own_in place) placed

-- keys share requests only where they go out together
abbrev pub MayStand : Grouping → PlacedInteraction → Type 0
MayStand grouping (Alone place done) = Unit {0}
MayStand grouping (Shared it) = grouping ≡ ByServer

-- these interactions are those of the first so many keys, each with the place of its key
pub record ArePlaced (grouping : Grouping) (count : ℕ) (placed : List PlacedInteraction)
    (done : List Interaction) : Type 0 where
  pub are : done ≡ flat_map interactions_of placed
  pub only : (place : ℕ) → count ≤ place → own_of place placed ≡ []
  pub may : All (MayStand grouping) placed

-- these keys of a request for several were routed, at most so many at once, and gave this text
pub record AnswersAtOnce (plan : KeyPlan) (config : Configuration) (request : Request)
    (routed : List RoutedKey) (text : List ℕ) (done : List Interaction) : Type 0 where
  pub several : 1 < length (request_keys request)
  pub placed : List PlacedInteraction
  pub are_placed : ArePlaced plan.grouping (length routed) placed done
  pub each : (place : ℕ) (one : RoutedKey) → slice_get routed place ≡ Some one
      → IsKeyRouted config request one (own_of place placed)
  pub reply : List ℕ
  pub is_reply : IsReply plan.most (request_keys request) routed reply
  pub is_written : text ≡ reply_written request reply

-- memory ran out for the part that a key has of what came of a request: after attempts at the first
-- targets, none of them answered, it was sent to the next one, and what came was recorded
pub record IsPartLost (config : Configuration) (request : Request) (key : List ℕ)
    (done : List Interaction) : Type 0 where
  pub trail : List Attempt
  pub calls : List RoutedCall
  pub server : ℕ
  pub part : Outcome
  pub reply : Option Reply
  pub tried : IsCutTrail (targets_of config key) trail
  pub next : server ≡ next_target (targets_of config key) trail
  pub found : FindsUp (form_in config (request_for request key)) calls trail server
  pub are : done ≡ map Made calls
      ++ (Made (came server (form_in config (request_for request key) (length trail)) (Ok part))
      ∷ (map Made (map Told (record_of server (op_of part) reply)) ++ Noted trail ∷ []))

-- what was done for a key of a request at which memory ran out: it was routed; or memory ran out at
-- it, or for its part of what came of a request; or nothing was done for it
pub data IsKeyOver (config : Configuration) (request : Request) (key : List ℕ)
    (done : List Interaction) : Type 0 where
  routed : (trail : List Attempt) → IsKeyRouted config request (routed_key key trail) done
      → IsKeyOver config request key done
  cut : IsKeyCut config request key done → IsKeyOver config request key done
  part_lost : IsPartLost config request key done → IsKeyOver config request key done
  untried : done ≡ [] → IsKeyOver config request key done

-- memory ran out for a request for several keys, of which these were begun
pub record IsCutAtOnce (plan : KeyPlan) (config : Configuration) (request : Request)
    (done : List Interaction) : Type 0 where
  pub several : 1 < length (request_keys request)
  pub begun : List (List ℕ)
  pub left : List (List ℕ)
  pub keys : request_keys request ≡ begun ++ left
  pub placed : List PlacedInteraction
  pub are_placed : ArePlaced plan.grouping (length begun) placed done
  pub each : (place : ℕ) (key : List ℕ) → slice_get begun place ≡ Some key
      → IsKeyOver config request key (own_of place placed)
