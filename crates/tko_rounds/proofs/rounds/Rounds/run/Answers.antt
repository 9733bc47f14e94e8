use Rattle.tko_rounds.specs.Workers.{state_of}
use Rattle.tko_rounds.proofs.RoundLemmas.{round_idle}
use Rattle.tko_rounds.proofs.VisitLemmas.{only_none}
use Rattle.tko_rounds.proofs.rounds.Rounds.run.Goals as goal

pub returns-then-is_idle-clause-round : goal.returns-then-is_idle-clause-round
returns-then-is_idle-clause-round g c =
    round_idle g.H.Health c.args.moment c.args.due (state_of c.args.self.now c.args.worker.now) c.if-is_idle.ensures.yes

pub returns-then-is_idle-clause-only : goal.returns-then-is_idle-clause-only
returns-then-is_idle-clause-only g c = only_none (c.args.self.now, c.args.worker.now)

pub returns-then-work-clause-idle : goal.returns-then-work-clause-idle
returns-then-work-clause-idle g c = λ idle. absurd (c.if-is_idle.ensures.no idle)

pub returns-clause-idle : goal.returns-clause-idle
returns-clause-idle g c = λ idle. absurd (c.if-is_idle.ensures.no idle)
