use Rattle.tko_runs.proofs.ClaimLemmas.{HasCome}
use Rattle.tko_runs.proofs.run.Run.of.Given as goal

abbrev pub invariant-loop-place : goal.invariant-loop-place
invariant-loop-place l = HasCome l.fn.settings l.event-items l.place l.state
