-- What one act of a worker for a client adds to the client's life.
use Rattle.std.specs.Prelude.{◌≡◌, ◌<◌, ℕ, Bool, false, List, [], ◌∷◌, ◌++◌, Some, None, Result, Ok, Err, map, take}
use Rattle.tko_text.specs.declared.request.Request.{Request}
use Rattle.tko_links.specs.declared.links.ExchangeNoMemory.{ExchangeNoMemory}
use Rattle.tko_links.specs.declared.links.Outcome.{Outcome}
use Rattle.tko_pools.specs.Configs.{Configuration}
use Rattle.tko_route.specs.Calls.{RoutedCall, came}
use Rattle.tko_route.specs.declared.attempt.Attempt.{Attempt}
use Rattle.tko_reply.specs.Interactions.{Interaction, Made, Noted, Recorded, marks_of}
use Rattle.tko_reply.specs.Standing.{SentKey}
use Rattle.tko_reply.specs.TrailEvents.{Asked, Tried}
use Rattle.tko_keys.specs.KeysActs.{KeysAct}
use Rattle.tko_keys.specs.KeysState.{IsComplete, IsNew, KeysState, reply_in}
use Rattle.tko_session.specs.declared.step.Progress.{Progress}
use Rattle.tko_session.specs.declared.step.Progress.TheVariants as progress
use Rattle.tko_session.specs.declared.step.Step.{Step}
use Rattle.tko_session.specs.declared.step.Step.TheVariants as step
use Rattle.tko_session.specs.Clients.{ClientPhase, ClientState, Life, Open, Over, Short, life, no_life}
use Rattle.tko_session.specs.Driven.{AwaitedDropped, AwaitedTaken, WasDropped, WentOn, dropped}
use Rattle.tko_session.specs.Handing.{HandsOver, replied_by}
use Rattle.tko_session.specs.Outgoing.{AreOutgoing, sent_from}
use Rattle.tko_session.specs.SessionState.{SessionState, fed_state, progress_after}
use Rattle.tko_session.specs.Working.{Work}
use Rattle.tko_session.specs.Working as work

-- the request that was read
abbrev pub asked_at : Work → List Interaction
asked_at work.Between = []
asked_at (work.Read one) = Recorded (Asked one.request) ∷ []
asked_at (work.Awaits it) = []
asked_at (work.Ended one) = []
asked_at work.HandedOver = []

-- what is recorded after a call that said this, before the next call
abbrev pub recorded_after : Step → Work → List Interaction
recorded_after step.Began at = asked_at at
recorded_after (step.Tried trail) at = Recorded (Tried trail) ∷ []
recorded_after (step.Asks clear) at = []
recorded_after (step.Refused fault) at = []
recorded_after (step.At progress) at = []

-- what is left of that where it could not be recorded: the marks of the attempts at a key
abbrev pub left_after : Step → List Interaction
left_after step.Began = []
left_after (step.Tried trail) = Noted trail ∷ []
left_after (step.Asks clear) = []
left_after (step.Refused fault) = []
left_after (step.At progress) = []

-- something is to be recorded
abbrev pub IsToRecord : Step → Type 0
IsToRecord step.Began = Unit {0}
IsToRecord (step.Tried trail) = Unit {0}
IsToRecord (step.Asks clear) = ⊥
IsToRecord (step.Refused fault) = ⊥
IsToRecord (step.At progress) = ⊥

-- the send that is out came to this
abbrev pub came_to : SentKey → Result Outcome ExchangeNoMemory → Interaction
came_to it result = Made (came it.awaited.server it.key.request result)

-- how a client stands once its session is so far: `quit` and a line too long end it
abbrev pub progress_phase : Progress → ClientPhase
progress_phase progress.Quit = Over
progress_phase progress.LineTooLong = Over
progress_phase progress.More = Open
progress_phase progress.NeedsInput = Open

-- how a client stands after a call that said this
abbrev pub phase_after : Step → ClientPhase
phase_after step.Began = Open
phase_after (step.Asks clear) = Open
phase_after (step.Tried trail) = Open
phase_after (step.Refused fault) = progress_phase (progress_after fault)
phase_after (step.At at) = progress_phase at

-- A call of a client's session, with what its driver records before the next one: the session went
-- on, or took what came of its send.
pub data IsSessionCall (config : Configuration) (old : SessionState) (done : List Interaction)
    (phase : ClientPhase) (new : SessionState) : Type 0 where
  went : (calls : List RoutedCall) (said : Step) → WentOn config old calls said new
      → done ≡ map Made calls ++ recorded_after said new.work → phase ≡ phase_after said
      → IsSessionCall config old done phase new
  took : (it : SentKey) (outcome : Outcome) (calls : List RoutedCall) (said : Step)
      → old.work ≡ work.Awaits it → AwaitedTaken config outcome old calls said new
      → done ≡ came_to it (Ok outcome) ∷ (map Made calls ++ recorded_after said new.work)
      → phase ≡ phase_after said → IsSessionCall config old done phase new

-- Memory ran out, and the request under way was dropped: in such a call; or at the send; or where
-- something could not be recorded after the call.
pub data IsLoss (config : Configuration) (old : SessionState) (done : List Interaction)
    (new : SessionState) : Type 0 where
  went : (calls : List RoutedCall) (attempts : List Attempt)
      → WasDropped config old calls attempts new
      → done ≡ map Made calls ++ marks_of attempts → IsLoss config old done new
  took : (it : SentKey) (outcome : Outcome) (calls : List RoutedCall) (attempts : List Attempt)
      → old.work ≡ work.Awaits it → AwaitedDropped config outcome old calls attempts new
      → done ≡ came_to it (Ok outcome) ∷ (map Made calls ++ marks_of attempts)
      → IsLoss config old done new
  stopped : (it : SentKey) (was_sent : Bool) → old.work ≡ work.Awaits it → new ≡ dropped old
      → done ≡ came_to it (Err (record { sent = was_sent })) ∷ Noted it.awaited.attempts ∷ []
      → IsLoss config old done new
  went_unrecorded : (calls : List RoutedCall) (said : Step) (mid : SessionState)
      → WentOn config old calls said mid → IsToRecord said → new ≡ dropped mid
      → done ≡ map Made calls ++ left_after said → IsLoss config old done new
  took_unrecorded : (it : SentKey) (outcome : Outcome) (calls : List RoutedCall) (said : Step)
      (mid : SessionState) → old.work ≡ work.Awaits it
      → AwaitedTaken config outcome old calls said mid → IsToRecord said → new ≡ dropped mid
      → done ≡ came_to it (Ok outcome) ∷ (map Made calls ++ left_after said)
      → IsLoss config old done new

-- the keys of a client's request that was handed over
pub record HasKeys (old : ClientState) (keys : KeysState) : Type 0 where
  pub going : old.phase ≡ Open
  pub at : old.session.work ≡ work.HandedOver
  pub are : old.keys ≡ Some keys

-- One act for a client, and what it adds to its life: bytes came from it; replies went to it; the
-- round that it owed was run; its session made a call; or memory ran out for it. Where more than
-- one key of a request may be under way, a request that was recorded may be handed over; then calls
-- are made for its keys; and once these are complete the reply is taken, or memory ran out for one
-- of them, or as the reply was taken.
pub data IsAct (config : Configuration) (old : ClientState) (adds : Life) (new : ClientState)
    : Type 0 where
  fed : (piece : List ℕ) → old.phase ≡ Open → adds ≡ life piece [] []
      → new ≡ record old { session = fed_state old.session piece } → IsAct config old adds new
  wrote : (count : ℕ) → AreOutgoing old.session count
      → adds ≡ life [] (take count old.session.outbox) []
      → new ≡ record old { session = sent_from old.session count } → IsAct config old adds new
  round_run : adds ≡ no_life
      → new ≡ record old { session = record old.session { owes = false } }
      → IsAct config old adds new
  stepped : (done : List Interaction) → old.phase ≡ Open → adds ≡ life [] [] done
      → IsSessionCall config old.session done new.phase new.session
      → new ≡ record old { phase = new.phase; session = new.session } → IsAct config old adds new
  lost : (done : List Interaction) → old.phase ≡ Open → adds ≡ life [] [] done
      → IsLoss config old.session done new.session
      → new ≡ record old { phase = Short; session = new.session } → IsAct config old adds new
  handed : (request : Request) (keys : KeysState) → old.phase ≡ Open → 1 < old.plan.most
      → HandsOver old.session request new.session → IsNew request old.plan keys → adds ≡ no_life
      → new ≡ record old { session = new.session; keys = Some keys } → IsAct config old adds new
  keyed : (done : List Interaction) (keys now : KeysState) → HasKeys old keys
      → KeysAct config keys done now → adds ≡ life [] [] done
      → new ≡ record old { keys = Some now } → IsAct config old adds new
  replied : (keys : KeysState) → HasKeys old keys → IsComplete keys → keys.lost ≡ false
      → adds ≡ no_life
      → new ≡ record old {
        session = replied_by (reply_in keys.slots) old.session;
        keys = None;
      } → IsAct config old adds new
  keys_lost : (keys : KeysState) → HasKeys old keys → IsComplete keys → adds ≡ no_life
      → new ≡ record old { phase = Short; session = dropped old.session; keys = None }
      → IsAct config old adds new
