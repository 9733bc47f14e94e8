use Rattle.std.proofs.Common.{◌≡◌, List, reverse, take}
use Rattle.tko_model.specs.Settings.{Settings}
use Rattle.tko_runs.specs.Effects.{AreEffects}
use Rattle.tko_runs.specs.Points.{IsSoFar}
use Rattle.tko_steps.specs.Runs.{OwnStep, RunCall}
use Rattle.tko_runs.proofs.checking.point.point_of.Given as goal

-- the steps that the effects so far are of stand so
abbrev pub invariant-loop-effect : goal.invariant-loop-effect
invariant-loop-effect l =
    (s : Settings) → (call : RunCall) → (steps : List OwnStep) → call.answer ≡ l.call.answer
    → AreEffects s call steps (reverse (take l.effect-index l.call.steps.items)) → IsSoFar s call steps l.so_far
