-- What the check of a run keeps of the steps of a call.
use Rattle.std.specs.Prelude.{◌≡◌, ◌↔◌, List, [], ◌∷◌, reverse, true, Option, Some, None}
use Rattle.tko_model.specs.declared.mark.Reply.{Reply}
use Rattle.tko_model.specs.Settings.{Settings}
use Rattle.tko_runs.specs.declared.checking.point.CheckedCall.{CheckedCall}
use Rattle.tko_runs.specs.declared.checking.effect.Effect.{Effect}
use Rattle.tko_runs.specs.declared.checking.order.Point.{Point}
use Rattle.tko_runs.specs.Orders.{IsPoint}
use Rattle.tko_steps.specs.Legal.{ChangesNothing, IsLegal, TakesEffect}
use Rattle.tko_steps.specs.Runs.{OwnStep, RunCall}

-- this is kept of a step of the call: whether it is quiet, and with which reply the call takes
-- effect there, if with any
pub record IsEffect (s : Settings) (call : RunCall) (own : OwnStep) (effect : Effect) : Type 0 where
  pub number : effect.at ≡ own.at
  pub quiet : (effect.is_quiet ≡ true) ↔ ChangesNothing own
  pub gives : (reply : Reply) → (effect.gives ≡ Some reply) ↔ TakesEffect s call reply own.step

-- one for each step, in the same order
abbrev pub AreEffects : Settings → RunCall → List OwnStep → List Effect → Type 0
AreEffects s call [] [] = Unit {0}
AreEffects s call [] (effect ∷ effects) = ⊥
AreEffects s call (own ∷ steps) [] = ⊥
AreEffects s call (own ∷ steps) (effect ∷ effects) =
    IsEffect s call own effect × AreEffects s call steps effects

-- this is kept of the call, with its steps oldest first
pub record IsCallKept (s : Settings) (call : RunCall) (kept : CheckedCall) : Type 0 where
  pub number : kept.number ≡ call.number
  pub op : kept.op ≡ call.op
  pub server : kept.server ≡ call.server
  pub answer : kept.answer ≡ call.answer
  pub steps : AreEffects s call call.steps (reverse kept.steps.items)

-- where a call takes effect if it is legal, and nothing if it isn't
abbrev pub Judges : Settings → RunCall → Option Point → Type 0
Judges s call None = IsLegal s call → ⊥
Judges s call (Some placed) = IsLegal s call × IsPoint s call placed
