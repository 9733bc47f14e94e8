-- What the log tells of a server: which replies change a mark, and what came of an exchange.
use Rattle.std.specs.Prelude.{ℕ, Bool, true, false, Option, Some, None, option_map, Result, Ok, Err}
use Rattle.tko_links.specs.declared.links.ExchangeNoMemory.{ExchangeNoMemory}
use Rattle.tko_links.specs.declared.links.Outcome.{Outcome}
use Rattle.tko_links.specs.declared.links.Outcome.TheVariants as outcome
use Rattle.tko_model.specs.declared.mark.Reply.{Reply}
use Rattle.tko_model.specs.declared.mark.Reply.TheVariants as reply
use Rattle.tko_metrics.specs.declared.marking.Marking.{Marking}
use Rattle.tko_metrics.specs.declared.marking.Marking.TheVariants as marking
use Rattle.tko_events.specs.declared.event.Cause.{Cause}
use Rattle.tko_events.specs.declared.event.Cause.TheVariants as cause
use Rattle.tko_events.specs.declared.event.ServerChange.{ServerChange}
use Rattle.tko_events.specs.declared.event.ServerChange.TheVariants as change
use Rattle.tko_events.specs.declared.event.What.{What}
use Rattle.tko_events.specs.declared.event.What.TheVariants as what

-- the change of a mark that a reply reports; the other replies leave each mark as it was
abbrev pub change_in : Reply → Option ServerChange
change_in (reply.Up count) = None
change_in (reply.Marked mark) = None
change_in (reply.Counted count) = None
change_in reply.TookSoft = Some change.MarkedSoft
change_in reply.Full = None
change_in (reply.Already mark) = None
change_in reply.Worn = None
change_in reply.Contended = None
change_in reply.TookHard = Some change.MarkedHard
change_in reply.Hardened = Some change.Hardened
change_in reply.Clean = None
change_in (reply.Reset count) = None
change_in (reply.Unmarked mark) = Some change.Unmarked
change_in (reply.Released mark) = Some change.Released
change_in (reply.NotMine mark) = None

-- whether a server is not marked, once the health replied so to a soft failure of it
abbrev pub leaves_in_use : Reply → Bool
leaves_in_use (reply.Up count) = false
leaves_in_use (reply.Marked mark) = false
leaves_in_use (reply.Counted count) = true
leaves_in_use reply.TookSoft = false
leaves_in_use reply.Full = true
leaves_in_use (reply.Already mark) = false
leaves_in_use reply.Worn = true
leaves_in_use reply.Contended = true
leaves_in_use reply.TookHard = false
leaves_in_use reply.Hardened = false
leaves_in_use reply.Clean = false
leaves_in_use (reply.Reset count) = false
leaves_in_use (reply.Unmarked mark) = false
leaves_in_use (reply.Released mark) = false
leaves_in_use (reply.NotMine mark) = false

-- whether an attempt that came to this timed out and left the server in use
abbrev pub is_slow : Outcome → Reply → Bool
is_slow (outcome.Reply response) reply = false
is_slow outcome.Timeout reply = leaves_in_use reply
is_slow outcome.Refused reply = false
is_slow outcome.Broken reply = false
is_slow outcome.Aborted reply = false
is_slow outcome.Spent reply = false

-- the mark that its worker has on the server after a change; a probe leaves it as it was
abbrev pub marking_after : ServerChange → Option Marking
marking_after change.MarkedSoft = Some marking.Soft
marking_after change.MarkedHard = Some marking.Hard
marking_after change.Hardened = Some marking.Hard
marking_after change.Unmarked = Some marking.Up
marking_after change.Released = Some marking.Up
marking_after change.Probed = None

-- what came of a send, without the response
abbrev pub cause_of_outcome : Outcome → Cause
cause_of_outcome (outcome.Reply response) = cause.Reply
cause_of_outcome outcome.Timeout = cause.Timeout
cause_of_outcome outcome.Refused = cause.Refused
cause_of_outcome outcome.Broken = cause.Broken
cause_of_outcome outcome.Aborted = cause.Aborted
cause_of_outcome outcome.Spent = cause.Spent

-- what came of a probe, without the response
abbrev pub cause_of : Result Outcome ExchangeNoMemory → Cause
cause_of (Ok outcome) = cause_of_outcome outcome
cause_of (Err fault) = cause.Memory

-- the event of a reply, if it reports a change
abbrev pub reported_change : ℕ → ℕ → Option Cause → Reply → Option What
reported_change server worker cause reply =
    option_map (λ change. what.Server server worker change cause) (change_in reply)

-- the same where the health may have been told nothing
abbrev pub change_after : ℕ → ℕ → Option Cause → Option Reply → Option What
change_after server worker cause None = None
change_after server worker cause (Some reply) = reported_change server worker cause reply

-- the server whose mark an event changes, and its worker's mark there from then on
abbrev pub marking_in : What → Option (ℕ × Marking)
marking_in what.Started = None
marking_in what.Listening = None
marking_in (what.Server server worker change cause) =
    option_map (λ mark. (server, mark)) (marking_after change)
marking_in (what.Lacking server lack) = None
marking_in (what.Slow server count) = None
marking_in (what.Refused why count client) = None
marking_in (what.LookedUp server end) = None
marking_in (what.Clients sessions faults) = None
marking_in what.Ended = None
