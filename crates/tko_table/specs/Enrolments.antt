-- What an enrolment promises: the core's step that draws a number, on plain data.
use Rattle.std.specs.Prelude.{All, length, ◌≡◌, ℕ, ◌+◌, ◌<◌, List, [], ◌∷◌}
use Rattle.atomic_table.specs.Table.{Me}
use Rattle.tko_model.specs.declared.layout.Layout.TheVariants as layout
use Rattle.tko_model.specs.Limits.{max_threads}
use Rattle.tko_steps.specs.declared.phase.ThreadState.TheVariants.{NotEnrolled}
use Rattle.tko_steps.specs.Core.{CoreState, thread_at}
use Rattle.tko_steps.specs.Invariant.{IsCore}
use Rattle.tko_steps.specs.Runs.{Step, StepTaken, Took as TookStep, happens}
use Rattle.tko_steps.specs.declared.step.Word.TheVariants as held
use Rattle.tko_table.specs.declared.pass.Change.{Change}
use Rattle.tko_table.specs.declared.pass.PassView.{PassView}
use Rattle.tko_table.specs.History.{Begins, Replays}
use Rattle.tko_table.specs.Passes.{HasItsChanges, count_enrolled, enrol_first}

-- in this state of the core, which meets the core's invariant, the next step of one of the threads
-- is its enrolment: it finds this number in the enrolment word, and leaves one more
pub record EnrolsIn (core : CoreState) (drawn : ℕ) : Type 0 where
  pub is : IsCore core
  pub thread : ℕ
  pub inside : thread < length core.threads
  pub waits : thread_at core thread ≡ NotEnrolled
  pub step : StepTaken
  pub turn : (happens (record { core = core; past = [] }) (Step thread)).past ≡ TookStep step ∷ []
  pub found : step.found ≡ held.Enrolled drawn
  pub left : step.left ≡ held.Enrolled (drawn + 1)

-- the first of these passes that isn't enrolled drew this number; where they are all passes that
-- there are, it is how many of them were enrolled
pub record DrawsNumber (before : List PassView) (number : ℕ) (after : List PassView) : Type 0 where
  pub history : List Change
  pub begins : All (λ pass. Begins pass.seen history) before
  pub drew : after ≡ enrol_first before number history
  pub few : number < max_threads layout.Two
  -- what the words held, and the states of all threads: the step is the core's
  pub core : CoreState
  pub enrols : EnrolsIn core number
  pub settings : All (λ pass. pass.settings ≡ core.settings) before
  pub replays : Replays core.settings history core.shared.servers
  -- the changes by the thread of each pass are those of its calls, and no other number than those
  -- that were drawn stands in the history
  pub made : All (HasItsChanges history) before
  pub drawn : All (λ change. change.number < number) history
  pub all : (pass : PassView) (rest : List PassView) →
      before ≡ pass ∷ rest →
      length before ≡ pass.settings.threads → number ≡ count_enrolled before

-- what an enrolment tells
abbrev pub Enrolled : Me (Unit {0}) (List PassView) → ℕ → Me (Unit {0}) (List PassView) → Type 0
Enrolled old found new = DrawsNumber old.0 found new.0
