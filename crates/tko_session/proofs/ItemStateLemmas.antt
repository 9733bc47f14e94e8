-- How far the next item of a session came, over what was done for it.
use Rattle.std.proofs.Common.{◌≡◌, ℕ, ◌+◌, Bool, List, [], ◌∷◌, ◌++◌, length}
use Rattle.tko_text.specs.declared.item.Item.TheVariants as item
use Rattle.tko_text.specs.declared.fault.TextFault.{TextFault}
use Rattle.tko_text.specs.declared.request.Request.{Request}
use Rattle.tko_text.specs.Requests.{fault_text}
use Rattle.tko_text.specs.Reading.{Emits, NeedsMore}
use Rattle.tko_pools.specs.Configs.{Configuration}
use Rattle.tko_bytes.specs.Numbers.{capped}
use Rattle.tko_route.specs.declared.attempt.Attempt.{Attempt}
use Rattle.tko_reply.specs.Answers.{IsKeyed}
use Rattle.tko_reply.specs.Interactions.{Interaction, Recorded}
use Rattle.tko_reply.specs.Standing.{SentKey, whole_of}
use Rattle.tko_reply.specs.TrailEvents.{Asked}
use Rattle.tko_reply.specs.declared.asking.OneKey.{OneKey}
use Rattle.tko_reply.proofs.StandsLemmas.{IsAnswered, IsPast, IsSending, IsTried}
use Rattle.tko_session.specs.Driven.{with_request_read}
use Rattle.tko_session.specs.SessionState.{SessionState, progress_after, progress_of}
use Rattle.tko_session.specs.Working.{Between}
use Rattle.tko_session.specs.Working as work
use Rattle.tko_session.specs.declared.step.Progress.{Progress}
use Rattle.tko_session.specs.declared.step.Progress.TheVariants as progress
use Rattle.tko_session.specs.declared.step.Step.{Step}
use Rattle.tko_session.specs.declared.step.Step.TheVariants as step

-- the next item is this request, and its reply is not complete
pub record IsFor (old : SessionState) (it : Request) (owes : Bool)
    (now : SessionState) : Type 0 where
  pub emits : Emits old.reading (item.Request it) now.reading
  pub begin : now.begin ≡ length old.outbox
  pub requests : now.requests ≡ old.requests
  pub owed : now.owes ≡ owes

-- it was read, and is to be recorded
pub record IsTakenAt (old now : SessionState) : Type 0 where
  pub it : Request
  pub emits : Emits old.reading (item.Request it) now.reading
  pub state : now ≡ with_request_read (whole_of it) (record old { reading = now.reading })

-- it was recorded
pub record IsAskedAt (old : SessionState) (owes : Bool) (done : List Interaction)
    (now : SessionState) : Type 0 where
  pub it : Request
  pub are : done ≡ Recorded (Asked it) ∷ []
  pub under : IsFor old it owes now
  pub at : now.work ≡ work.Read (whole_of it)
  pub waits : now.outbox ≡ old.outbox

-- a send is out for it
pub record IsOutAt (config : Configuration) (old : SessionState) (owes : Bool)
    (done : List Interaction) (clear : ℕ) (sent : SentKey) (now : SessionState) : Type 0 where
  pub it : Request
  pub was : List Interaction
  pub are : done ≡ Recorded (Asked it) ∷ was
  pub under : IsFor old it owes now
  pub by_key : IsKeyed it
  pub at : now.work ≡ work.Awaits sent
  pub stands : IsSending config it old.outbox clear sent now.targets was now.outbox

-- the attempts at a key of it ended, and the trail is to be recorded
pub record IsTriedAt (config : Configuration) (old : SessionState) (owes : Bool)
    (done : List Interaction) (trail : List Attempt) (now : SessionState) : Type 0 where
  pub it : Request
  pub was : List Interaction
  pub are : done ≡ Recorded (Asked it) ∷ was
  pub under : IsFor old it owes now
  pub by_key : IsKeyed it
  pub one : OneKey
  pub at : now.work ≡ work.Ended one
  pub stands : IsTried config it old.outbox trail one was now.outbox

-- the trail was recorded
pub record IsPastAt (config : Configuration) (old : SessionState) (owes : Bool)
    (done : List Interaction) (now : SessionState) : Type 0 where
  pub it : Request
  pub was : List Interaction
  pub are : done ≡ Recorded (Asked it) ∷ was
  pub under : IsFor old it owes now
  pub by_key : IsKeyed it
  pub one : OneKey
  pub at : now.work ≡ work.Ended one
  pub stands : IsPast config it old.outbox one was now.outbox

-- it was answered
pub record IsRepliedAt (config : Configuration) (old : SessionState) (owes : Bool)
    (done : List Interaction) (at : Progress) (now : SessionState) : Type 0 where
  pub it : Request
  pub was : List Interaction
  pub are : done ≡ Recorded (Asked it) ∷ was
  pub emits : Emits old.reading (item.Request it) now.reading
  pub says : at ≡ progress_of it
  pub answered : IsAnswered config it old.outbox was now.outbox
  pub requests : capped now.requests ≡ capped (old.requests + 1)
  pub owed : now.owes ≡ owes
  pub between : now.work ≡ Between

-- no item is decided; or the next one was answered
pub data IsOverAt (config : Configuration) (old : SessionState) (owes : Bool)
    (done : List Interaction) (at : Progress) (now : SessionState) : Type 0 where
  undecided : NeedsMore old.reading → done ≡ [] → at ≡ progress.NeedsInput → now ≡ old
      → IsOverAt config old owes done at now
  refused : (fault : TextFault) → Emits old.reading (item.Fault fault) now.reading → done ≡ []
      → at ≡ progress_after fault
      → now ≡ record old { reading = now.reading; outbox = old.outbox ++ fault_text fault }
      → IsOverAt config old owes done at now
  replied : IsRepliedAt config old owes done at now → IsOverAt config old owes done at now

-- how far the next item came, where the session said this
abbrev pub IsItemAt : Configuration → SessionState → Bool → List Interaction → Step → SessionState
    → Type 0
IsItemAt config old owes done (step.At at) now = IsOverAt config old owes done at now
IsItemAt config old owes done (step.Refused fault) now =
    IsOverAt config old owes done (progress_after fault) now
IsItemAt config old owes done step.Began now = (done ≡ []) × IsTakenAt old now
IsItemAt config old owes done (step.Asks clear) now =
    (sent : SentKey) × IsOutAt config old owes done clear sent now
IsItemAt config old owes done (step.Tried trail) now = IsTriedAt config old owes done trail now

pub record IsItem (config : Configuration) (old : SessionState) (owes : Bool)
    (done : List Interaction) (said : Step) (now : SessionState) : Type 0 where
  pub on : IsItemAt config old owes done said now
