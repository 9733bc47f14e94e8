-- The step at which a call takes effect in the order that a check finds, and the faults of a check.
use Rattle.std.specs.Prelude.{◌≡◌, ◌≢◌, ℕ, zero, suc, slice_get, ◌+◌, List, [], ◌∷◌, ◌++◌, length, All, Option, Some, None}
use Rattle.tko_model.specs.declared.mark.Reply.{Reply}
use Rattle.tko_model.specs.declared.mark.Reply.TheVariants.{Contended}
use Rattle.tko_model.specs.Settings.{Settings}
use Rattle.tko_runs.specs.declared.run.event.Event.{Event}
use Rattle.tko_runs.specs.declared.run.event.Event.TheVariants.{Begin, Step}
use Rattle.tko_runs.specs.declared.checking.order.Point.{Point}
use Rattle.tko_runs.specs.declared.checking.order.Point.TheVariants as point
use Rattle.tko_runs.specs.declared.checking.RunFault.{RunFault}
use Rattle.tko_runs.specs.declared.checking.RunFault.TheVariants as fault
use Rattle.tko_runs.specs.States.{RunState, calls_in, claimed, opened_state, state_after}
use Rattle.tko_runs.specs.Words.{CanLeave, room_at}
use Rattle.tko_runs.specs.Runs.{RunData}
use Rattle.tko_steps.specs.declared.step.StepKind.{StepKind}
use Rattle.tko_steps.specs.declared.step.Place.{Place}
use Rattle.tko_steps.specs.declared.step.Word.{Word}
use Rattle.tko_steps.specs.Core.{word_at}
use Rattle.tko_steps.specs.Legal.{ChangesNothing, IsLegal, IsLegalAt, TakesEffect}
use Rattle.tko_steps.specs.Runs.{OwnStep, RunCall, steps_in}

-- Steps, by the words that they find and leave.

-- a step finds the word at its place, and leaves what its kind can leave, whoever takes it
pub record FollowsAt
    (s : Settings)
    (state : RunState)
    (kind : StepKind)
    (at : Place)
    (found left : Word) : Type 0 where
  pub finds : found ≡ word_at state.words at
  pub can : CanLeave s (room_at s state.words.slots at) kind found left

abbrev pub Follows : Settings → RunState → Event → Type 0
Follows s state (Begin thread op server) = Unit {0}
Follows s state (Step thread kind at found left answer) =
    FollowsAt s state kind at found left

-- so does each
abbrev pub AllFollow : Settings → RunState → List Event → Type 0
AllFollow s state [] = Unit {0}
AllFollow s state (event ∷ events) =
    Follows s state event × AllFollow s (state_after state event) events

-- the first step that doesn't follow has that number among all steps of calls, from 1
pub record IsFirstStray (s : Settings) (events : List Event) (number : ℕ) : Type 0 where
  pub before : List Event
  pub stray : Event
  pub after : List Event
  pub split : events ≡ before ++ stray ∷ after
  pub place : number ≡ steps_in (claimed s before).past + 1
  pub others : AllFollow s (opened_state s) before
  pub strays : Follows s (claimed s before).state stray → ⊥

-- Calls.

-- the last own step at which the call is legal: with this reply it takes effect there, its other
-- steps are quiet, and there is no such step after it
pub record IsLastLegalAt (s : Settings) (call : RunCall) (reply : Reply) (own : OwnStep)
    : Type 0 where
  pub newer : List OwnStep
  pub older : List OwnStep
  pub steps : call.steps ≡ newer ++ own ∷ older
  pub effect : TakesEffect s call reply own.step
  pub others : All ChangesNothing (newer ++ older)
  pub last : All (λ other. IsLegalAt s call reply other → ⊥) newer

-- where a legal call takes effect: at the step of a number, or it lost every try, or it is open
abbrev pub IsPoint : Settings → RunCall → Point → Type 0
IsPoint s call (point.At number) =
    (reply : Reply) × (own : OwnStep) × (call.answer ≡ Some reply) × (reply ≢ Contended)
    × IsLastLegalAt s call reply own × (own.at ≡ number)
IsPoint s call point.Contended = call.answer ≡ Some Contended
IsPoint s call point.Open = call.answer ≡ None

-- where each of the calls takes effect
abbrev pub IsOrder : Settings → List RunCall → List Point → Type 0
IsOrder s [] [] = Unit {0}
IsOrder s [] (at_point ∷ others) = ⊥
IsOrder s (call ∷ calls) [] = ⊥
IsOrder s (call ∷ calls) (at_point ∷ others) = IsPoint s call at_point × IsOrder s calls others

-- where each call of a run takes effect
abbrev pub IsOrderOf : RunData → List Point → Type 0
IsOrderOf run points = IsOrder run.settings (calls_in run.settings run.events) points

-- the first call that isn't legal is that one, counted from 1
pub record IsFirstIllegal (s : Settings) (calls : List RunCall) (number : ℕ) : Type 0 where
  pub before : List RunCall
  pub illegal : RunCall
  pub after : List RunCall
  pub split : calls ≡ before ++ illegal ∷ after
  pub place : number ≡ length before + 1
  pub others : All (IsLegal s) before
  pub not_legal : IsLegal s illegal → ⊥

-- Runs.

-- each step of a run finds and leaves a possible word, and all its calls are legal
pub record IsLegalRun (run : RunData) : Type 0 where
  pub follow : AllFollow run.settings (opened_state run.settings) run.events
  pub legal : All (IsLegal run.settings) (calls_in run.settings run.events)

-- the fault of a check: steps are judged before calls; any call may instead fail with `Memory`
abbrev pub IsRunFault : RunData → RunFault → Type 0
IsRunFault run (fault.Step number) = IsFirstStray run.settings run.events number
IsRunFault run (fault.Call number) =
    AllFollow run.settings (opened_state run.settings) run.events
    × IsFirstIllegal run.settings (calls_in run.settings run.events) number
IsRunFault run fault.Memory = Unit {0}

-- the number of the step at which the call of that number, from 1, takes effect
abbrev pub point_step : Option Point → Option ℕ
point_step None = None
point_step (Some (point.At number)) = Some number
point_step (Some point.Contended) = None
point_step (Some point.Open) = None

abbrev pub point_number_at : List Point → ℕ → Option ℕ
point_number_at points zero = None
point_number_at points (suc place) = point_step (slice_get points place)
