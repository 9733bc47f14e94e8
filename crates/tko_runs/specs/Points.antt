-- Where a call can take effect, among its steps so far.
use Rattle.std.specs.Prelude.{◌≡◌, ℕ, List, ◌∷◌, ◌++◌, All, Option, Some, None}
use Rattle.tko_model.specs.declared.mark.Reply.{Reply}
use Rattle.tko_model.specs.Settings.{Settings}
use Rattle.tko_runs.specs.declared.checking.point.PointSoFar.{PointSoFar}
use Rattle.tko_runs.specs.declared.checking.point.PointSoFar.TheVariants.{Quiet, Changed}
use Rattle.tko_runs.specs.declared.checking.order.Point.{Point}
use Rattle.tko_runs.specs.Effects.{Judges}
use Rattle.tko_steps.specs.Legal.{ChangesNothing, TakesEffect}
use Rattle.tko_steps.specs.Runs.{OwnStep, RunCall}

-- a call with this answer can have this reply; an open call can still get any
abbrev pub MayHave : Option Reply → Reply → Type 0
MayHave None reply = Unit {0}
MayHave (Some answer) reply = reply ≡ answer

-- with this effect at a step, a call with this answer may take effect there
pub record MayTakeEffect (answer effect : Option Reply) : Type 0 where
  pub reply : Reply
  pub answers : MayHave answer reply
  pub is : effect ≡ Some reply

-- the call takes effect at this step, with a reply that it may have
pub record IsEffective (s : Settings) (call : RunCall) (own : OwnStep) : Type 0 where
  pub reply : Reply
  pub answers : MayHave call.answer reply
  pub effect : TakesEffect s call reply own.step

-- the steps are quiet, and the call takes effect at none of them
pub record IsQuietNowhere (s : Settings) (call : RunCall) (steps : List OwnStep) : Type 0 where
  pub quiet : All ChangesNothing steps
  pub nowhere : All (λ own. IsEffective s call own → ⊥) steps

-- the steps, newest first, are quiet, and this is the number of the last at which the call takes
-- effect
pub record IsQuietAt (s : Settings) (call : RunCall) (steps : List OwnStep) (number : ℕ)
    : Type 0 where
  pub newer : List OwnStep
  pub own : OwnStep
  pub older : List OwnStep
  pub split : steps ≡ newer ++ own ∷ older
  pub at : own.at ≡ number
  pub effect : IsEffective s call own
  pub quiet : All ChangesNothing steps
  pub last : All (λ other. IsEffective s call other → ⊥) newer

-- some step is not quiet, and at none of them the call takes effect while the others are quiet
pub record IsChangedNowhere (s : Settings) (call : RunCall) (steps : List OwnStep) : Type 0 where
  pub changed : All ChangesNothing steps → ⊥
  pub nowhere : (newer : List OwnStep) (own : OwnStep) (older : List OwnStep) →
      steps ≡ newer ++ own ∷ older → IsEffective s call own
      → All ChangesNothing (newer ++ older) → ⊥

-- the step of this number alone is not quiet, and the call takes effect there
pub record IsChangedAt
    (s : Settings) (call : RunCall) (steps : List OwnStep) (number : ℕ) : Type 0 where
  pub newer : List OwnStep
  pub own : OwnStep
  pub older : List OwnStep
  pub split : steps ≡ newer ++ own ∷ older
  pub at : own.at ≡ number
  pub effect : IsEffective s call own
  pub changed : ChangesNothing own → ⊥
  pub others : All ChangesNothing (newer ++ older)

-- the meaning of a `PointSoFar`, for these steps, newest first
abbrev pub IsSoFar : Settings → RunCall → List OwnStep → PointSoFar → Type 0
IsSoFar s call steps (Quiet None) = IsQuietNowhere s call steps
IsSoFar s call steps (Quiet (Some number)) = IsQuietAt s call steps number
IsSoFar s call steps (Changed None) = IsChangedNowhere s call steps
IsSoFar s call steps (Changed (Some number)) = IsChangedAt s call steps number

-- this is where every call with this answer takes effect whose steps have this `PointSoFar`
abbrev pub PointsCalls : Option Reply → PointSoFar → Option Point → Type 0
PointsCalls answer so_far place =
    (s : Settings) (call : RunCall) →
    call.answer ≡ answer → IsSoFar s call call.steps so_far → Judges s call place
