use Rattle.std.proofs.Common.{◌≡◌, ◌+◌, ◌≤◌, ◌++◌, drop}
use Rattle.tko_runs.specs.Prints.{events_text, number_behind}
use Rattle.tko_runs.proofs.printing.append_events.Given as goal

-- the lines so far and those of the events that are left; the number behind all; and each event is at most
-- one step
abbrev pub invariant-loop-event : goal.invariant-loop-event
invariant-loop-event l =
    (l.out.items ++ events_text l.version l.number (drop l.event-index l.events)
    ≡ l.initial.out.items ++ events_text l.version l.initial.number l.events)
    × (number_behind l.number (drop l.event-index l.events) ≡ number_behind l.initial.number l.events)
    × (l.number ≤ l.initial.number + l.event-index)
