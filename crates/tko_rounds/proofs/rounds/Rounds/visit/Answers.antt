use Rattle.tko_rounds.specs.Workers.{state_of}
use Rattle.tko_rounds.proofs.RoundLemmas.{visited_both}
use Rattle.tko_rounds.proofs.VisitLemmas.{only_on}
use Rattle.tko_rounds.proofs.rounds.Rounds.visit.Goals as goal

pub returns-clause-visit : goal.returns-clause-visit
returns-clause-visit g c =
    visited_both {old = state_of c.args.self.now c.args.worker.now} {mid = state_of c.take.new.self c.take.new.worker}
    {new = state_of c.send.new.self c.send.new.worker} c.take.ensures.taken c.send.ensures.next

pub returns-clause-only : goal.returns-clause-only
returns-clause-only g c = only_on c.take.ensures.only c.send.ensures.only
