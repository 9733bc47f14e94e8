-- How far a request was answered that is under way, over what was done since it was recorded.
use Rattle.std.specs.Prelude.{◌≡◌, ◌<◌, ℕ, Bool, List, [], ◌∷◌, ◌++◌, All, Option, Some, length, map}
use Rattle.tko_text.specs.declared.request.Request.{Request}
use Rattle.tko_pools.specs.Configs.{Configuration, targets_of}
use Rattle.tko_route.specs.Calls.{RoutedCall}
use Rattle.tko_route.specs.Routing.{FindsUp, IsAwaited}
use Rattle.tko_reply.specs.Answering.{retrieval}
use Rattle.tko_reply.specs.Answers.{Answers, AreKeysRouted, IsKeyed, form_in, request_keys}
use Rattle.tko_reply.specs.Interactions.{Interaction, Made}
use Rattle.tko_reply.specs.Replies.{HasValues, RoutedKey, joined_values, keys_in}
use Rattle.tko_reply.specs.Standing.{SentKey, whole_of}
use Rattle.tko_reply.specs.declared.asking.OneKey.{OneKey}
use Rattle.tko_reply.specs.declared.asking.ReplyPart.TheVariants as share
use Rattle.tko_keys.specs.KeysSoFar.{KeysSoFar}
use Rattle.tko_keys.specs.KeysState.{KeysState}
use Rattle.tko_keys.specs.declared.plan.KeyPlan.{KeyPlan}
use Rattle.tko_session.specs.Working.{Work}
use Rattle.tko_session.specs.Working as work

-- a request under way: the replies that wait before its own, and what was done since it was
-- recorded
pub record PendingRequest : Type 0 where
  pub request : Request
  pub front : List ℕ
  pub done : List Interaction

-- some keys of it were routed, each of them got a list of values, which follow the replies before,
-- and these keys are left
pub record HasJoined (config : Configuration) (it : PendingRequest) (left : List (List ℕ))
    (outbox : List ℕ) : Type 0 where
  pub routed : List RoutedKey
  pub keys : request_keys it.request ≡ keys_in routed ++ left
  pub each : AreKeysRouted config it.request routed it.done
  pub values : All HasValues routed
  pub appended : outbox ≡ it.front ++ joined_values routed

-- one of several keys of a request, whose reply begins here, is asked for alone, and then come
-- those that are left
pub record IsOneKeyOf (request : Request) (begin : ℕ) (key : List ℕ) (left : List (List ℕ))
    (one : OneKey) : Type 0 where
  pub all : List (List ℕ)
  pub unique : Bool
  pub whole : request ≡ retrieval all unique
  pub some : 0 < length all
  pub alone : one ≡ record {
    request = retrieval (key ∷ []) unique;
    share = share.Joined begin left;
  }

-- a key of a request is asked for: its only one, by the request as it was read; or one of several
pub data AsksForKey (request : Request) (begin : ℕ) (key : List ℕ) (left : List (List ℕ))
    (one : OneKey) : Type 0 where
  only : request_keys request ≡ key ∷ [] → left ≡ [] → one ≡ whole_of request
      → AsksForKey request begin key left one
  one_of : IsOneKeyOf request begin key left one → AsksForKey request begin key left one

-- after keys that got lists of values this one is asked for, and a send is out to a server that its
-- calls found up
pub record IsSentFor (config : Configuration) (it : PendingRequest) (asking : SentKey)
    (targets : List ℕ) (outbox : List ℕ) : Type 0 where
  pub key : List ℕ
  pub left : List (List ℕ)
  pub first : OneKey
  pub before : List Interaction
  pub calls : List RoutedCall
  pub asks : AsksForKey it.request (length it.front) key left first
  pub so_far : HasJoined config (record it { done = before }) (key ∷ left) outbox
  pub aims : targets ≡ targets_of config key
  pub awaits : IsAwaited targets asking.awaited
  pub found : FindsUp (form_in config first.request) calls
      asking.awaited.attempts asking.awaited.server
  pub keeps : asking.key ≡ record {
    request = form_in config first.request (length asking.awaited.attempts);
    share = first.share;
  }
  pub are : it.done ≡ before ++ map Made calls

-- it was answered, and its reply follows those before
pub record IsReplied (config : Configuration) (it : PendingRequest) (outbox : List ℕ) : Type 0 where
  pub routed : List RoutedKey
  pub text : List ℕ
  pub answers : Answers config it.request routed text it.done
  pub appended : outbox ≡ it.front ++ text

-- a key of it was routed, and its trail recorded: the reply is complete; or that was one of several
-- keys, and its values follow those before
pub data IsKeyPast (config : Configuration) (it : PendingRequest) (one : OneKey) (outbox : List ℕ)
    : Type 0 where
  complete : (silent : Bool) → one.share ≡ share.Whole silent → IsKeyed it.request
      → IsReplied config it outbox → IsKeyPast config it one outbox
  values : (key : List ℕ) (left : List (List ℕ))
      → IsOneKeyOf it.request (length it.front) key left one
      → HasJoined config it left outbox → IsKeyPast config it one outbox

-- it was handed over, its keys came so far, and nothing of its reply is there yet
pub record AreKeysPending (plan : KeyPlan) (keys : Option KeysState) (config : Configuration)
    (it : PendingRequest) (outbox : List ℕ) : Type 0 where
  pub state : KeysState
  pub at : keys ≡ Some state
  pub several : 1 < plan.most
  pub within : state.plan ≡ plan
  pub so_far : KeysSoFar config it.request state it.done
  pub waits : outbox ≡ it.front

-- How far it came, where the session is at this: it was read, and nothing was done yet; or a send
-- is out for one of its keys; or the attempts at one of them ended; or it was handed over, with
-- these keys, which are sent by this plan.
abbrev pub IsPendingAt : KeyPlan → Option KeysState → Configuration → PendingRequest → Work → List ℕ
    → List ℕ → Type 0
IsPendingAt plan keys config it work.Between targets outbox = ⊥
IsPendingAt plan keys config it (work.Read one) targets outbox =
    (one ≡ whole_of it.request) × (it.done ≡ []) × (outbox ≡ it.front)
IsPendingAt plan keys config it (work.Awaits asking) targets outbox =
    IsSentFor config it asking targets outbox
IsPendingAt plan keys config it (work.Ended one) targets outbox = IsKeyPast config it one outbox
IsPendingAt plan keys config it work.HandedOver targets outbox =
    AreKeysPending plan keys config it outbox
