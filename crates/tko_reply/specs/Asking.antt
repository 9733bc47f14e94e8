-- The answer to one request as a value: how its calls begin a key, end it and go on. What came of a
-- send is passed to it, and other calls of the servers' health may stand between two calls of the
-- value. So each clause speaks of the calls of its key alone.
use Rattle.std.specs.Prelude.{◌≡◌, ◌≤◌, ℕ, Bool, true, false, List, [], ◌∷◌, ◌++◌, IsSome, Option}
use Rattle.std.specs.Prelude.{OnOk, Result, length, map, take, unwrap_or, if◌then◌else◌}
use Rattle.tko_model.specs.Records.{HealthItem}
use Rattle.tko_text.specs.declared.request.Request.{Request}
use Rattle.tko_text.specs.declared.response.Response.{Response}
use Rattle.tko_pools.specs.Configs.{AreServers, Configuration, targets_of}
use Rattle.tko_route.specs.Calls.{RoutedCall, Told}
use Rattle.tko_route.specs.Routing.{Reached, last_place}
use Rattle.tko_route.specs.Trail.{answer_of, form_at}
use Rattle.tko_route.specs.declared.routing.Stage.{Stage}
use Rattle.tko_route.specs.declared.routing.Stage.TheVariants as stage
use Rattle.tko_reply.specs.Answering.{retrieval}
use Rattle.tko_reply.specs.Answers.{AnswersItself, request_keys}
use Rattle.tko_reply.specs.Replies.{end_line, text_of_answer, values_text_in}
use Rattle.tko_reply.specs.Standing.{whole_of}
use Rattle.tko_reply.specs.declared.asking.OneKey.{OneKey}
use Rattle.tko_reply.specs.declared.asking.ReplyPart.{ReplyPart}
use Rattle.tko_reply.specs.declared.asking.ReplyPart.TheVariants as share

-- a request for one key goes to these targets
abbrev pub GoesTo : Configuration → Request → List ℕ → Type 0
GoesTo config request targets =
    (key : List ℕ) → request_keys request ≡ key ∷ [] → targets ≡ targets_of config key

-- the targets of a key were looked for: where it was begun they are its targets, and in any case
-- they are servers
pub record FindsTargets {T E : Type 0} (config : Configuration) (request : Request)
    (result : Result T E) (found : List ℕ) : Type 0 where
  pub targets : OnOk result (GoesTo config request found)
  pub within : AreServers config found

-- the replies that stay, whatever becomes of a key: all of them, or where several keys are asked
-- for those from before the first
abbrev pub front_of : ReplyPart → List ℕ → List ℕ
front_of (share.Whole silent) outbox = outbox
front_of (share.Joined begin left) outbox = take begin outbox

-- this key is one of several
abbrev pub IsJoined : ReplyPart → Type 0
IsJoined (share.Whole silent) = ⊥
IsJoined (share.Joined begin left) = Unit {0}

-- the replies from before the first of several keys are there
abbrev pub HasFront : ReplyPart → List ℕ → Type 0
HasFront (share.Whole silent) outbox = Unit {0}
HasFront (share.Joined begin left) outbox = begin ≤ length outbox

-- the reply that this key is a part of begins after so many bytes of the outbox
abbrev pub BeginsAt : ℕ → ReplyPart → List ℕ → Type 0
BeginsAt begin (share.Whole silent) outbox = begin ≤ length outbox
BeginsAt begin (share.Joined first left) outbox = (first ≡ begin) × (begin ≤ length outbox)

-- with which key the answer to a request begins, where so many bytes wait before its reply: with
-- its only one; or with the first of several, and then come those that are left
pub data IsFirst (request : Request) (waiting : ℕ) (one : OneKey) : Type 0 where
  alone : length (request_keys request) ≡ 1 → one ≡ whole_of request
      → IsFirst request waiting one
  of_several : (key : List ℕ) (left : List (List ℕ)) (unique : Bool)
      → request ≡ retrieval (key ∷ left) unique
      → one ≡ record { request = retrieval (key ∷ []) unique; share = share.Joined waiting left }
      → IsFirst request waiting one

-- how the answer to a request begins by these calls: the proxy answers it itself; or its first key
-- is to be asked for. Whether there is a key to ask for, the key, and the outbox then.
pub data BeginsAnswer (config : Configuration) (request : Request) (outbox : List ℕ)
    (calls : List RoutedCall) (keyed : Bool) (one : OneKey) (outbox' : List ℕ) : Type 0 where
  itself : (text : List ℕ) (looks : List HealthItem) → keyed ≡ false
      → AnswersItself config.addresses request text looks → calls ≡ map Told looks
      → outbox' ≡ outbox ++ text → BeginsAnswer config request outbox calls keyed one outbox'
  by_key : keyed ≡ true → IsFirst request (length outbox) one → calls ≡ []
      → outbox' ≡ outbox → BeginsAnswer config request outbox calls keyed one outbox'

-- the response to one of several keys: its values follow those before; or, if it is no list of
-- values, it takes their place and is all of the reply
pub data Joins (begin : ℕ) (left : List (List ℕ)) (found : Option Response) (outbox : List ℕ)
    (share' : ReplyPart) (outbox' : List ℕ) : Type 0 where
  other : ¬ (IsSome (values_text_in found)) → share' ≡ share.Whole false
      → outbox' ≡ take begin outbox ++ text_of_answer found
      → Joins begin left found outbox share' outbox'
  values : IsSome (values_text_in found) → share' ≡ share.Joined begin left
      → outbox' ≡ outbox ++ unwrap_or (values_text_in found) []
      → Joins begin left found outbox share' outbox'

-- a response is put into the outbox, as the whole reply or as the next part of one: the part and
-- the outbox before and after
abbrev pub Replies : ReplyPart → Option Response → List ℕ → ReplyPart → List ℕ → Type 0
Replies (share.Whole silent) found outbox share' outbox' = (share' ≡ share.Whole silent)
    × (outbox' ≡ outbox ++ (if silent then [] else text_of_answer found))
Replies (share.Joined begin left) found outbox share' outbox' =
    Joins begin left found outbox share' outbox'

-- where a routing came to a stage: nothing else changed; or the attempts at its key have ended, and
-- the response went into the reply
abbrev pub Settles : Stage → OneKey → List ℕ → OneKey → List ℕ → Type 0
Settles (stage.Away clear awaited) one outbox one' outbox' = (one' ≡ one) × (outbox' ≡ outbox)
Settles (stage.Done trail) one outbox one' outbox' = (one'.request ≡ one.request)
    × Replies one.share (answer_of trail) outbox one'.share outbox'

-- the request of a key that is routed to these targets, in the form of each place
pub record Course : Type 0 where
  pub targets : List ℕ
  pub form : ℕ → Request
  pub share : ReplyPart

-- the key where its routing came to this stage
abbrev pub key_at_stage : Course → Stage → OneKey
key_at_stage course stage =
    record { request = course.form (last_place stage); share = course.share }

-- the request of a key over these targets, in the form of each place
abbrev pub course_of : Configuration → List ℕ → OneKey → Request → Course
course_of config targets one original = record {
  targets = targets;
  form = form_at config.failover_exptime original;
  share = one.share;
}

-- by these calls the routing of a key came to a stage, and was settled: the key and the outbox then
pub record Goes (course : Course) (calls : List RoutedCall) (outbox : List ℕ) (stage : Stage)
    (one : OneKey) (outbox' : List ℕ) : Type 0 where
  pub reached : Reached course.targets course.form calls stage
  pub settles : Settles stage (key_at_stage course stage) outbox one outbox'

-- after a key its reply is complete; or it is one of several, and `END` follows the values of the
-- last, or the next is asked for as this one was, and then come those that are left. Whether there
-- is a key to ask for, the key, and the outbox then.
pub data ContinuesKeys (one : OneKey) (outbox : List ℕ) (keyed : Bool) (one' : OneKey)
    (outbox' : List ℕ) : Type 0 where
  complete : (silent : Bool) → one.share ≡ share.Whole silent → keyed ≡ false
      → outbox' ≡ outbox → ContinuesKeys one outbox keyed one' outbox'
  last : (begin : ℕ) → one.share ≡ share.Joined begin [] → keyed ≡ false
      → outbox' ≡ outbox ++ end_line → ContinuesKeys one outbox keyed one' outbox'
  next : (begin : ℕ) (key : List ℕ) (left : List (List ℕ))
      → one.share ≡ share.Joined begin (key ∷ left) → keyed ≡ true
      → ((keys : List (List ℕ)) (unique : Bool) → one.request ≡ retrieval keys unique
      → one'.request ≡ retrieval (key ∷ []) unique)
      → one'.share ≡ share.Joined begin left → outbox' ≡ outbox
      → ContinuesKeys one outbox keyed one' outbox'
