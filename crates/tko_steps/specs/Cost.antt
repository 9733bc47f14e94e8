-- How many steps a call takes at most.
use Rattle.std.specs.Prelude.{◌≡◌, ℕ, ◌+◌, ◌*◌, ◌<◌, ◌≤◌, length, None}
use Rattle.tko_model.specs.declared.mark.Op.{Op}
use Rattle.tko_model.specs.declared.mark.Op.TheVariants.{LookUp, SoftFailure, HardFailure, Success, Release}
use Rattle.tko_model.specs.Settings.{Settings}
use Rattle.tko_steps.specs.Runs.{RunCall}

-- the most steps of a call of this operation: a try of a soft failure takes five, one of a hard
-- failure or a success two, and the try that gives up the thread's own soft mark four
abbrev pub most_steps : Settings → Op → ℕ
most_steps s LookUp = 1
most_steps s SoftFailure = 5 * s.tries
most_steps s HardFailure = 2 * s.tries + 2
most_steps s Success = 2 * s.tries + 2
most_steps s Release = 4

-- a call took no more, and an open call took fewer
abbrev pub IsShort : Settings → RunCall → Type 0
IsShort s call =
    (length call.steps ≤ most_steps s call.op)
    × (call.answer ≡ None → length call.steps < most_steps s call.op)
