-- A call under way: what the code has to know before each step.
use Rattle.std.specs.Prelude.{◌≡◌, ℕ, ◌+◌, ◌<◌, ◌≤◌, true, List, [], ◌∷◌}
use Rattle.tko_model.specs.declared.mark.Mark.TheVariants.{Soft}
use Rattle.tko_model.specs.declared.mark.Op.{Op}
use Rattle.tko_model.specs.declared.mark.Reply.{Reply}
use Rattle.tko_model.specs.Settings.{Settings}
use Rattle.tko_steps.specs.declared.phase.Call.{Call}
use Rattle.tko_steps.specs.declared.phase.Phase.{Phase}
use Rattle.tko_steps.specs.declared.phase.Phase.TheVariants.{Read, AtThreshold, Reserving, Holding, Loosening, Loosened}
use Rattle.tko_steps.specs.declared.phase.ThreadState.TheVariants.{Idle, InCall}
use Rattle.tko_steps.specs.declared.table.Observed.{Observed}
use Rattle.tko_steps.specs.Cost.{most_steps}
use Rattle.tko_steps.specs.Steps.{in_call}
use Rattle.tko_table.specs.declared.pass.PassView.{PassView}
use Rattle.tko_table.specs.Passes.{owns}
use Rattle.tko_table.specs.Steps.{IsSound, IsWritable}
use Rattle.tko_tracker.specs.Calls.{Called, IsStep, answers_owner, can_answer, owned_left}
use Rattle.tko_tracker.specs.History.{Adds}

-- the words that a call at this phase expects and leaves, now or later, can be packed
abbrev pub CanWrite : ℕ → Phase → Type 0
CanWrite number (Read found mark answer) = IsWritable found mark
CanWrite number (AtThreshold found) = IsWritable found (Soft number)
CanWrite number (Reserving found slots) = IsWritable found (Soft number)
CanWrite number (Holding found) = IsWritable found (Soft number)
CanWrite number (Loosening found mark answer) = IsWritable found mark
CanWrite number (Loosened found mark answer) = IsWritable found mark
CanWrite number phase = Unit {0}

-- the view's one pass may take the step of this call at this phase
pub record IsReady (s : Settings) (view : List PassView) (call : Call) (phase : Phase)
    : Type 0 where
  pub pass : PassView
  pub alone : view ≡ pass ∷ []
  pub settings : pass.settings ≡ s
  pub stands : in_call pass.state call.op call.server ≡ InCall call phase
  pub writes : CanWrite call.number phase

-- it took that step, which read this
pub record TakesStep
    (s : Settings) (before : List PassView) (call : Call) (phase : Phase) (read : Observed)
    (after : List PassView) : Type 0
  where
    pub old : PassView
    pub new : PassView
    pub was : before ≡ old ∷ []
    pub is : after ≡ new ∷ []
    pub step : IsStep old call phase read new
    pub sound : IsSound s call.server read

-- the view's one pass is that of a thread of this number, which makes no call
pub record CanCall (s : Settings) (number : ℕ) (view : List PassView) : Type 0 where
  pub pass : PassView
  pub alone : view ≡ pass ∷ []
  pub settings : pass.settings ≡ s
  pub state : pass.state ≡ Idle number
  pub within : number < s.threads

-- that pass made a call with this answer, and makes none now
pub record RanCall
    (s : Settings) (number : ℕ) (before : List PassView) (op : Op) (server : ℕ) (answer : Reply)
    (after : List PassView) : Type 0
  where
    pub old : PassView
    pub new : PassView
    pub was : before ≡ old ∷ []
    pub is : after ≡ new ∷ []
    pub called : Called old op server answer new
    pub adds : Adds old op server answer new
    pub state : new.state ≡ Idle number
    pub settings : new.settings ≡ old.settings
    pub steps : new.steps ≤ old.steps + most_steps s op
    pub allowed : can_answer op answer ≡ true
    pub owned : new.owned ≡ owned_left answer server old.owned
    -- on a server that its own thread marked
    pub owner : owns old.owned server ≡ true → answers_owner op answer ≡ true
