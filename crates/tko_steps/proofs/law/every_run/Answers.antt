use Rattle.tko_steps.proofs.LawLemmas.{AreSoundCalls-run, AreSoundSteps-run, IsSoundState-run}
use Rattle.tko_steps.proofs.law.every_run.Goals as goal

pub returns-clause-calls : goal.returns-clause-calls
returns-clause-calls c = AreSoundCalls-run

pub returns-clause-steps : goal.returns-clause-steps
returns-clause-steps c = AreSoundSteps-run

pub returns-clause-state : goal.returns-clause-state
returns-clause-state c = IsSoundState-run
