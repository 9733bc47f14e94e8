-- A session as a value that is driven: what each of its calls makes of its state, over the calls of
-- health that it makes. A request is read, and then begun; a send is out for it; or the attempts at
-- one of its keys ended.
use Rattle.std.specs.Prelude.{◌≡◌, ℕ, ◌+◌, true, false, List, [], ◌++◌, length, map, take}
use Rattle.std.specs.Prelude.{Result, OnOk, OnErr, IfErr}
use Rattle.tko_model.specs.Records.{HealthItem}
use Rattle.tko_text.specs.Reading.{Emits, NeedsMore}
use Rattle.tko_text.specs.Requests.{fault_text}
use Rattle.tko_text.specs.SentRequests.{without_noreply}
use Rattle.tko_text.specs.declared.fault.TextFault.{TextFault}
use Rattle.tko_text.specs.declared.item.Item.TheVariants as item
use Rattle.tko_text.specs.declared.request.Request.{Request}
use Rattle.tko_links.specs.declared.links.Outcome.{Outcome}
use Rattle.tko_pools.specs.Configs.{AreServers, Configuration}
use Rattle.tko_route.specs.Calls.{RoutedCall, Told}
use Rattle.tko_route.specs.Trail.{form_at}
use Rattle.tko_route.specs.declared.attempt.Attempt.{Attempt}
use Rattle.tko_route.specs.declared.routing.Stage.{Stage}
use Rattle.tko_route.specs.declared.routing.Stage.TheVariants as stage
use Rattle.tko_bytes.specs.Numbers.{capped}
use Rattle.tko_reply.specs.Answers.{AnswersItself}
use Rattle.tko_reply.specs.Asking.{BeginsAt, ContinuesKeys, Goes, GoesTo, IsFirst, IsJoined, course_of}
use Rattle.tko_reply.specs.Cuts.{EndsBy, IsBeginCut, KeyLost}
use Rattle.tko_reply.specs.Sends.{AfterSend, IsSent}
use Rattle.tko_reply.specs.Standing.{SentKey, asking, whole_of}
use Rattle.tko_reply.specs.declared.asking.OneKey.{OneKey}
use Rattle.tko_session.specs.declared.step.Progress.TheVariants as progress
use Rattle.tko_session.specs.declared.step.Step.{Step}
use Rattle.tko_session.specs.declared.step.Step.TheVariants as step
use Rattle.tko_session.specs.Working.{Work}
use Rattle.tko_session.specs.Working as work
use Rattle.tko_session.specs.SessionState.{SessionState, progress_of}

-- what the session says, where a key came so far
abbrev pub step_of : Stage → Step
step_of (stage.Away clear awaited) = step.Asks clear
step_of (stage.Done trail) = step.Tried trail

-- what the session is at there, with the key
abbrev pub work_of : Stage → OneKey → Work
work_of (stage.Away clear awaited) one = work.Awaits (asking awaited one)
work_of (stage.Done trail) one = work.Ended one

-- the session there
abbrev pub went : Stage → OneKey → SessionState → SessionState
went at one old = record old { work = work_of at one }

-- the session where a request was read: its reply follows the replies that wait, and a round is
-- owed
abbrev pub with_request_read : OneKey → SessionState → SessionState
with_request_read one old =
    record old { begin = length old.outbox; owes = true; work = work.Read one }

-- the session where a request was answered, which counts it
abbrev pub finished : SessionState → SessionState
finished old = record old { work = work.Between; requests = capped (old.requests + 1) }

-- the session where a request was dropped: nothing of its reply is left
abbrev pub dropped : SessionState → SessionState
dropped old = record old { outbox = take old.begin old.outbox; work = work.Between }

-- the session where something of the request at work was to be recorded
pub record StaysOrDrops (old : SessionState) (result : Result (Unit {0}) (List Attempt))
    (new : SessionState) : Type 0 where
  -- once it was recorded the session is as it was
  pub same : OnOk result (new ≡ old)
  -- where memory ran out it dropped the request
  pub dropped : OnErr result (new ≡ dropped old)
  -- .. of which no attempt is left whose marks are to be noted
  pub attempts : IfErr result (λ attempts. attempts ≡ [])

-- a send is out
abbrev pub IsAwaiting : Work → Type 0
IsAwaiting (work.Awaits it) = Unit {0}
IsAwaiting _ = ⊥

-- the session goes on by itself: no send is out, and no request was handed over
abbrev pub MayGoOn : Work → Type 0
MayGoOn (work.Awaits it) = ⊥
MayGoOn work.HandedOver = ⊥
MayGoOn _ = Unit {0}

-- a request was read, and its reply begins at the end of the replies that wait
pub record IsRequestRead (state : SessionState) (one : OneKey) : Type 0 where
  pub whole : one ≡ whole_of one.request
  pub begins : state.begin ≡ length state.outbox

-- a send is out to one of the session's targets, and the reply that it is a part of begins where
-- the session says
pub record IsSendOut (config : Configuration) (state : SessionState) (it : SentKey) : Type 0 where
  pub begins : BeginsAt state.begin it.key.share state.outbox
  pub sent : IsSent config state.targets it

-- what each call of a session leaves for the next one
abbrev pub IsReadyFor : Configuration → SessionState → Work → Type 0
IsReadyFor config state work.Between = Unit {0}
IsReadyFor config state (work.Read one) = IsRequestRead state one
IsReadyFor config state (work.Awaits it) = IsSendOut config state it
IsReadyFor config state (work.Ended one) = BeginsAt state.begin one.share state.outbox
IsReadyFor config state work.HandedOver = state.begin ≡ length state.outbox

abbrev pub IsSessionReady : Configuration → SessionState → Type 0
IsSessionReady config state = IsReadyFor config state state.work

-- the session is ready for its next call, and goes on by itself
pub record IsReadyForNext (config : Configuration) (state : SessionState) : Type 0 where
  pub ready : IsSessionReady config state
  pub may : MayGoOn state.work

-- the session is ready for its next call, which takes what came of the send that is out
pub record IsReadyForOutcome (config : Configuration) (state : SessionState) : Type 0 where
  pub ready : IsSessionReady config state
  pub awaiting : IsAwaiting state.work

-- no item is decided; or the next one is a fault, which is answered; or a request, which is kept
pub data ItemRead (old : SessionState) (said : Step) (new : SessionState) : Type 0 where
  none : NeedsMore old.reading → said ≡ step.At progress.NeedsInput → new ≡ old
      → ItemRead old said new
  refused : (fault : TextFault) → Emits old.reading (item.Fault fault) new.reading
      → said ≡ step.Refused fault
      → new ≡ record old { reading = new.reading; outbox = old.outbox ++ fault_text fault }
      → ItemRead old said new
  asked : (it : Request) → Emits old.reading (item.Request it) new.reading
      → said ≡ step.Began
      → new ≡ with_request_read (whole_of it) (record old { reading = new.reading })
      → ItemRead old said new

-- memory ran out there: nothing was done but to read
pub record ItemDropped (old new : SessionState) : Type 0 where
  pub only_read : new ≡ record old { reading = new.reading }

module _ (config : Configuration) where
  -- a key was asked for over its targets, which are servers
  pub record KeyBegun (one : OneKey) (old : SessionState) (calls : List RoutedCall) (said : Step)
      (new : SessionState) : Type 0 where
    pub at : Stage
    pub key : OneKey
    pub goes : Goes (course_of config new.targets one (without_noreply one.request)) calls
        old.outbox at key new.outbox
    pub targets : GoesTo config one.request new.targets
    pub within : AreServers config new.targets
    pub says : said ≡ step_of at
    pub state : new ≡ went at key (record old { outbox = new.outbox; targets = new.targets })

  -- memory ran out there, and its request was dropped after these attempts
  pub record KeyDropped (one : OneKey) (old : SessionState) (calls : List RoutedCall)
      (attempts : List Attempt) (new : SessionState) : Type 0 where
    pub lost : KeyLost config one.request calls attempts
    pub state : new ≡ record (dropped old) { targets = new.targets }

  -- the request that was read is begun: the proxy answered it itself, or its first key was asked
  -- for
  pub data RequestBegun (request : Request) (old : SessionState) (calls : List RoutedCall)
      (said : Step) (new : SessionState) : Type 0 where
    itself : (text : List ℕ) (looks : List HealthItem)
        → AnswersItself config.addresses request text looks → calls ≡ map Told looks
        → said ≡ step.At (progress_of request)
        → new ≡ finished (record old { outbox = old.outbox ++ text })
        → RequestBegun request old calls said new
    by_key : (one : OneKey) → IsFirst request (length old.outbox) one
        → KeyBegun one old calls said new → RequestBegun request old calls said new

  -- memory ran out there: before a key was asked for; or at the first
  pub data RequestDropped (request : Request) (old : SessionState) (calls : List RoutedCall)
      (attempts : List Attempt) (new : SessionState) : Type 0 where
    unkeyed : IsBeginCut config request calls → attempts ≡ [] → new ≡ dropped old
        → RequestDropped request old calls attempts new
    at_key : (one : OneKey) → IsFirst request (length old.outbox) one
        → KeyDropped one old calls attempts new → RequestDropped request old calls attempts new

  -- the attempts at a key had ended: its reply is complete, or the next key was asked for
  pub data KeyPassed (one : OneKey) (old : SessionState) (calls : List RoutedCall) (said : Step)
      (new : SessionState) : Type 0 where
    over : ContinuesKeys one old.outbox false one new.outbox → calls ≡ []
        → said ≡ step.At progress.More → new ≡ finished (record old { outbox = new.outbox })
        → KeyPassed one old calls said new
    next : (other : OneKey) → ContinuesKeys one old.outbox true other old.outbox
        → KeyBegun other old calls said new → KeyPassed one old calls said new

  -- memory ran out there, after one of several keys: before the next was asked for, or at it
  pub data PassDropped (one : OneKey) (old : SessionState) (calls : List RoutedCall)
      (attempts : List Attempt) (new : SessionState) : Type 0 where
    unpassed : IsJoined one.share → calls ≡ [] → attempts ≡ [] → new ≡ dropped old
        → PassDropped one old calls attempts new
    at_next : (other : OneKey) → ContinuesKeys one old.outbox true other old.outbox
        → KeyDropped other old calls attempts new → PassDropped one old calls attempts new

  -- the session went on from what it was at
  abbrev pub WentOnFrom : Work → SessionState → List RoutedCall → Step → SessionState → Type 0
  WentOnFrom work.Between old calls said new = (calls ≡ []) × ItemRead old said new
  WentOnFrom (work.Read one) old calls said new = RequestBegun one.request old calls said new
  WentOnFrom (work.Awaits it) old calls said new = ⊥
  WentOnFrom (work.Ended one) old calls said new = KeyPassed one old calls said new
  WentOnFrom work.HandedOver old calls said new = ⊥

  abbrev pub WentOn : SessionState → List RoutedCall → Step → SessionState → Type 0
  WentOn old calls said new = WentOnFrom old.work old calls said new

  -- memory ran out there, and a request that was being answered was dropped
  abbrev pub WasDroppedFrom : Work → SessionState → List RoutedCall → List Attempt → SessionState
      → Type 0
  WasDroppedFrom work.Between old calls attempts new =
      (calls ≡ []) × (attempts ≡ []) × ItemDropped old new
  WasDroppedFrom (work.Read one) old calls attempts new =
      RequestDropped one.request old calls attempts new
  WasDroppedFrom (work.Awaits it) old calls attempts new = ⊥
  WasDroppedFrom (work.Ended one) old calls attempts new = PassDropped one old calls attempts new
  WasDroppedFrom work.HandedOver old calls attempts new = ⊥

  abbrev pub WasDropped : SessionState → List RoutedCall → List Attempt → SessionState → Type 0
  WasDropped old calls attempts new = WasDroppedFrom old.work old calls attempts new

  -- what came of a send was recorded
  pub record OutcomeTaken (it : SentKey) (outcome : Outcome) (old : SessionState)
      (calls : List RoutedCall) (said : Step) (new : SessionState) : Type 0 where
    pub at : Stage
    pub key : OneKey
    pub goes : AfterSend config it outcome (λ original before. Goes
        (course_of config old.targets it.key original) (before calls)
        old.outbox at key new.outbox)
    pub says : said ≡ step_of at
    pub state : new ≡ went at key (record old { outbox = new.outbox })

  -- memory ran out there, and the request was dropped after these attempts
  pub record OutcomeDropped (it : SentKey) (outcome : Outcome) (old : SessionState)
      (calls : List RoutedCall) (attempts : List Attempt) (new : SessionState) : Type 0 where
    pub lost : AfterSend config it outcome (λ original before. EndsBy old.targets
        (form_at config.failover_exptime original) (before calls) attempts)
    pub state : new ≡ dropped old

  -- what came of the send that is out was recorded, or its request was dropped
  abbrev pub AwaitedTaken : Outcome → SessionState → List RoutedCall → Step → SessionState → Type 0
  AwaitedTaken outcome old calls said new = (it : SentKey) → old.work ≡ work.Awaits it
      → OutcomeTaken it outcome old calls said new

  abbrev pub AwaitedDropped : Outcome → SessionState → List RoutedCall → List Attempt → SessionState
      → Type 0
  AwaitedDropped outcome old calls attempts new = (it : SentKey) → old.work ≡ work.Awaits it
      → OutcomeDropped it outcome old calls attempts new
