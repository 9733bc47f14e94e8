-- What a step on the shared words needs.
use Rattle.std.specs.Prelude.{ℕ, ◌+◌, ◌<◌, ◌^◌, List, length}
use Rattle.tko_model.specs.Settings.{Settings}
use Rattle.tko_model.specs.Groups.{group_of}
use Rattle.tko_word.specs.Words.{IsMark, stamp_end}
use Rattle.tko_steps.specs.declared.table.Action.{Action}
use Rattle.tko_steps.specs.declared.table.Action.TheVariants.{LookAtServer, Exchange, Reserve, Settle, Loosen, Give}
use Rattle.tko_steps.specs.declared.phase.Slots.{Slots}
use Rattle.tko_steps.specs.declared.step.Place.{Place}
use Rattle.tko_steps.specs.declared.step.Place.TheVariants as place
use Rattle.tko_steps.specs.Core.{Shared, slots_at}

-- what a step on the soft word of this group needs: no count goes below 0, and nothing wraps
abbrev pub CanShift : Slots → Action → Type 0
CanShift now (Reserve slots) = now.held + 1 < 2 ^ 32
CanShift now Settle = (0 < now.held) × (now.firm + 1 < 2 ^ 32)
CanShift now Loosen = (0 < now.firm) × (now.held + 1 < 2 ^ 32)
CanShift now Give = 0 < now.held
CanShift now action = Unit {0}

-- the same of the soft word of a group, which is there
abbrev pub CanShiftIn : List Slots → ℕ → Action → Type 0
CanShiftIn slots group action = (group < length slots) × CanShift (slots_at slots group) action

-- what a step on the words needs
abbrev pub CanAct : Settings → Shared → ℕ → Action → Type 0
CanAct s shared server LookAtServer = server < length shared.servers
CanAct s shared server (Exchange found mark) =
    (server < length shared.servers) × IsMark mark × (found.stamp + 1 < stamp_end)
CanAct s shared server action = CanShiftIn shared.slots (group_of s server) action

-- the word of this place is there, and a number of threads fits what is said of it
abbrev pub IsPlace : Shared → Place → Type 0
IsPlace shared (place.Server server) = server < length shared.servers
IsPlace shared (place.Soft group) = group < length shared.slots
IsPlace shared place.Enrolment = shared.enrolled < 2 ^ 32
