-- What becomes of the requests whose responses had not come when their connection was shut.
use Rattle.std.specs.Prelude.{Bool, true, false, Some, None, List, [], ◌∷◌, unwrap_or}
use Rattle.tko_pipe.specs.declared.waiter.Asker.{Asker}
use Rattle.tko_pipe.specs.declared.waiter.Asker.TheVariants.{GaveUp}
use Rattle.tko_pipe.specs.declared.waiter.Waiter.{Waiter}
use Rattle.tko_pipe.specs.declared.fates.Fate.{Fate}
use Rattle.tko_pipe.specs.declared.fates.Fate.TheVariants as fate
use Rattle.tko_pipe.specs.declared.fates.Fates.{Fates}
use Rattle.tko_pipe.specs.declared.fates.ShutCause.{ShutCause}
use Rattle.tko_pipe.specs.declared.fates.ShutCause.TheVariants.{EndOfInput, Fault, Silent, Late, Unreadable, Unasked, Memory, Lacking}
use Rattle.tko_pipe.specs.declared.link.Link.{Link}
use Rattle.tko_pipe.specs.declared.link.Link.TheVariants.{Connecting}

-- the first has the one fate, and those that follow it the other
abbrev pub fates : Fate → Fate → Fates
fates first behind = record { first = Some first; behind = behind }

-- memory ran out for the first response: nobody's session ends for that where it gave up
abbrev pub memory_fates : Bool → Fates
memory_fates true = fates fate.Aborted fate.Aborted
memory_fates false = fates fate.Memory fate.Aborted

-- connected, and shut for this cause
abbrev pub fates_connected : Bool → ShutCause → Fates
fates_connected gone EndOfInput = fates fate.Broken fate.Aborted
fates_connected gone Fault = fates fate.Broken fate.Aborted
fates_connected gone (Silent now) = fates fate.Timeout fate.Timeout
fates_connected gone (Late now) = fates fate.Timeout fate.Aborted
fates_connected gone Unreadable = fates fate.Broken fate.Aborted
fates_connected gone Unasked = fates fate.Broken fate.Aborted
fates_connected gone Memory = memory_fates gone
fates_connected gone Lacking = fates fate.Aborted fate.Aborted

-- not yet connected, and shut for this cause
abbrev pub fates_connecting : Bool → ShutCause → Fates
fates_connecting gone Memory = memory_fates gone
fates_connecting gone Lacking = fates fate.Aborted fate.Aborted
fates_connecting gone _ = fates fate.Refused fate.Refused

-- the table, of a connection whose first asker gave up or is there
abbrev pub fates_of : Link → Bool → ShutCause → Fates
fates_of Connecting gone cause = fates_connecting gone cause
fates_of _ gone cause = fates_connected gone cause

-- the fate of the first of those that are left
abbrev pub next_fate : Fates → Fate
next_fate left = unwrap_or left.first left.behind

-- that of this one: one that gave up is not concerned
abbrev pub fate_for : Asker → Fates → Fate
fate_for (GaveUp number) left = fate.Aborted
fate_for _ left = next_fate left

-- the fates of those that follow this one
abbrev pub fates_left : Asker → Fates → Fates
fates_left (GaveUp number) left = left
fates_left _ left = record left { first = None }

-- one that waited, and its fate
pub record Leaving : Type 0 where
  pub waiter : Waiter
  pub came : Fate

-- those that are left, in order, each with its fate
abbrev pub leaving : Fates → List Waiter → List Leaving
leaving left [] = []
leaving left (waiter ∷ others) =
    record { waiter = waiter; came = fate_for waiter.by left }
    ∷ leaving (fates_left waiter.by left) others
