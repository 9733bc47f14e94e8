use Rattle.tko_reply.proofs.TurnLemmas.{of_turn, to_turn}
use Rattle.tko_reply.proofs.law.in_turn.Goals as goal

pub returns-clause-to : goal.returns-clause-to
returns-clause-to c = to_turn

pub returns-clause-from : goal.returns-clause-from
returns-clause-from c = of_turn
