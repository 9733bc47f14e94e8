-- The table of phases: the step that a call takes from its phase, and what follows from what that
-- step read.
use Rattle.std.specs.Prelude.{ℕ, ◌+◌, Bool, true, false, ◌==◌, ◌&&◌, if◌then◌else◌, Option, Some, None}
use Rattle.tko_model.specs.declared.mark.Mark.{Mark}
use Rattle.tko_model.specs.declared.mark.Mark.TheVariants.{Up, Soft, Hard}
use Rattle.tko_model.specs.declared.mark.Reply.{Reply}
use Rattle.tko_model.specs.declared.mark.Reply.TheVariants as reply
use Rattle.tko_model.specs.declared.state.ServerState.{ServerState}
use Rattle.tko_model.specs.Settings.{Settings}
use Rattle.tko_model.specs.Groups.{limit_at}
use Rattle.tko_model.specs.Tracker.{is_soft, transition}
use Rattle.tko_steps.specs.declared.table.Action.{Action}
use Rattle.tko_steps.specs.declared.table.Action.TheVariants as action
use Rattle.tko_steps.specs.declared.table.Decision.{Decision}
use Rattle.tko_steps.specs.declared.table.Decision.TheVariants.{Goes, Answers}
use Rattle.tko_steps.specs.declared.table.Observed.{Observed}
use Rattle.tko_steps.specs.declared.table.Observed.TheVariants as seen
use Rattle.tko_steps.specs.declared.phase.Call.{Call}
use Rattle.tko_steps.specs.declared.phase.Phase.{Phase}
use Rattle.tko_steps.specs.declared.phase.Phase.TheVariants.{Start, Read, AtThreshold, Limit, Reserving, Holding, Firming, Losing, Loosening, Loosened, Emptied}
use Rattle.tko_steps.specs.declared.phase.Slots.{Slots}

-- whether two marks are one
abbrev pub same_mark : Mark → Mark → Bool
same_mark (Up one) (Up other) = one == other
same_mark (Soft one) (Soft other) = one == other
same_mark (Hard one) (Hard other) = one == other
same_mark one other = false

-- whether two servers have one mark and one stamp, and so one word
abbrev pub same_server : ServerState → ServerState → Bool
same_server one other = same_mark one.mark other.mark && (one.stamp == other.stamp)

abbrev pub same_slots : Slots → Slots → Bool
same_slots one other = (one.firm == other.firm) && (one.held == other.held)

-- the step of each phase, of a thread with this number
abbrev pub action_of : ℕ → Phase → Action
action_of number Start = action.LookAtServer
action_of number (Read found mark answer) = action.Exchange found mark
action_of number (AtThreshold found) = action.LookAtSlots
action_of number (Limit found) = action.LookAtServer
action_of number (Reserving found slots) = action.Reserve slots
action_of number (Holding found) = action.Exchange found (Soft number)
action_of number Firming = action.Settle
action_of number Losing = action.Give
action_of number (Loosening found mark answer) = action.Loosen
action_of number (Loosened found mark answer) = action.Exchange found mark
action_of number (Emptied answer) = action.Give

-- the call goes on at this phase
abbrev pub goes : Call → Phase → Decision
goes call phase = Goes call.lost phase

-- one more try is lost: the call begins again, unless that was its last try
abbrev pub lost_try : Settings → Call → Decision
lost_try s call =
    if s.tries == (call.lost + 1) then Answers reply.Contended else Goes (call.lost + 1) Start

-- a call that is to put this mark, with this reply, in the place of what it found: a soft mark
-- needs a slot first, the thread's own soft mark is loosened first, and any other is exchanged at
-- once
abbrev pub puts : Call → ServerState → Mark → Reply → Decision
puts call found mark answer =
    if is_soft mark
    then goes call (AtThreshold found)
    else (if is_soft found.mark
    then goes call (Loosening found mark answer)
    else goes call (Read found mark answer))

-- a call that is to do what the sequential tracker does on what it found
abbrev pub sets_out : Call → ServerState → Reply → Option Mark → Decision
sets_out call found answer None = Answers answer
sets_out call found answer (Some mark) = puts call found mark answer

-- the first look found the server like this, where the sequential tracker makes a soft mark if
-- there is room for one more
abbrev pub from_start : Settings → Call → ServerState → Decision
from_start s call found =
    let given = transition s true call.number call.op found.mark found.stamp in
    sets_out call found given.reply given.change

-- a soft failure that would mark found these counts
abbrev pub at_threshold : Settings → Call → ServerState → Slots → Decision
at_threshold s call found slots =
    let limit = limit_at s call.server in
    if slots.firm == limit
    then goes call (Limit found)
    else (if (slots.firm + slots.held) == limit
    then lost_try s call
    else goes call (Reserving found slots))

-- as many marks were settled as may be; the call looked again
abbrev pub at_limit : Settings → Call → ServerState → ServerState → Decision
at_limit s call before found =
    if same_server before found then Answers reply.Full else lost_try s call

-- what a read that does not belong to the phase leaves: the call as it is
abbrev pub after_look : Settings → Call → Phase → ServerState → Decision
after_look s call Start found = from_start s call found
after_look s call (Limit before) found = at_limit s call before found
after_look s call phase found = goes call phase

abbrev pub after_slots : Settings → Call → Phase → Slots → Decision
after_slots s call (AtThreshold found) slots = at_threshold s call found slots
after_slots s call phase slots = goes call phase

abbrev pub after_change : Settings → Call → Phase → Bool → Decision
after_change s call (Read found mark answer) won = if won then Answers answer else lost_try s call
after_change s call (Reserving found slots) won =
    if won then goes call (Holding found) else lost_try s call
after_change s call (Holding found) won = if won then goes call Firming else goes call Losing
after_change s call Firming won = Answers reply.TookSoft
after_change s call Losing won = lost_try s call
after_change s call (Loosening found mark answer) won = goes call (Loosened found mark answer)
after_change s call (Loosened found mark answer) won = goes call (Emptied answer)
after_change s call (Emptied answer) won = Answers answer
after_change s call phase won = goes call phase

-- what follows once the step of its phase has read this
abbrev pub next_of : Settings → Call → Phase → Observed → Decision
next_of s call phase (seen.Server found) = after_look s call phase found
next_of s call phase (seen.Slots slots) = after_slots s call phase slots
next_of s call phase (seen.Done won) = after_change s call phase won
