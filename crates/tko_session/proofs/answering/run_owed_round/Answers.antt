use Rattle.tko_prober.proofs.BegunLemmas.{round-begun}
use Rattle.tko_session.proofs.answering.run_owed_round.Goals as goal

pub returns-clause-begun : goal.returns-clause-begun
returns-clause-begun g c = λ owed. round-begun c.round.ensures.round
