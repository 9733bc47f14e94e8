use Rattle.tko_session.proofs.HandedLemmas.{cut_in_turn, in_turn}
use Rattle.tko_session.proofs.clients.keys_in_turn.Goals as goal

pub returns-clause-turns : goal.returns-clause-turns
returns-clause-turns c = in_turn

pub returns-clause-cuts : goal.returns-clause-cuts
returns-clause-cuts c = cut_in_turn
