use Rattle.std.proofs.Common.{◌≡◌, take}
use Rattle.tko_runs.specs.States.{opened_state, state_after_all}
use Rattle.tko_runs.proofs.printing.state_left.Given as goal

abbrev pub invariant-loop-event : goal.invariant-loop-event
invariant-loop-event l = l.state ≡ state_after_all (opened_state l.settings) (take l.event-index l.events)
