use Rattle.std.proofs.Common.{drop}
use Rattle.tko_runs.specs.CheckStates.{AreIn}
use Rattle.tko_runs.proofs.checking.check.Given as goal

-- the events up to here went in
abbrev pub invariant-loop-event : goal.invariant-loop-event
invariant-loop-event l = AreIn l.run.settings l.run.events (drop l.event-index l.events) l.state
