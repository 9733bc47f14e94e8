use Rattle.std.proofs.Common.{rules}
use Rattle.tko_runs.proofs.JudgeLemmas.{answered_quiet, answered_quiet_nowhere, answered_changed}
use Rattle.tko_runs.proofs.checking.point.answered.Goals as goal

pub returns-in-Quiet-Some : goal.returns-in-Quiet-Some
returns-in-Quiet-Some c = λ reply apart s of answer stands.
    answered_quiet s of reply c.in-Quiet-Some.at answer apart (search rules)

pub returns-in-Quiet-None : goal.returns-in-Quiet-None
returns-in-Quiet-None c = λ reply apart s of answer stands.
    answered_quiet_nowhere s of reply answer apart (search rules)

pub returns-in-Changed-Some : goal.returns-in-Changed-Some
returns-in-Changed-Some c = λ reply apart s of answer stands.
    answered_changed s of reply c.in-Changed-Some.at answer apart (search rules)
