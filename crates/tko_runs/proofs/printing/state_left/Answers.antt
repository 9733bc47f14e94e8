use Rattle.tko_runs.specs.States.{opened_state}
use Rattle.tko_runs.proofs.ClaimLemmas.{comes_at, state_after_all-more}
use Rattle.tko_runs.proofs.printing.state_left.Goals as goal

pub record-requires : goal.record-requires
record-requires c =
    comes_at (opened_state c.args.settings.now) c.loop-event.state c.args.events.now c.loop-event.event-index _
    c.requires c.loop-event.invariant c.loop-event-test.true

pub loop-event-preserved : goal.loop-event-preserved
loop-event-preserved c =
    rw c.«record».ensures
    (state_after_all-more (opened_state c.args.settings.now) c.loop-event.state c.args.events.now c.loop-event.event-index _
    c.loop-event-test.true c.loop-event.invariant)
