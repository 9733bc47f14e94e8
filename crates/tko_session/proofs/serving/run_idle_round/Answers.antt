use Rattle.tko_prober.proofs.BegunLemmas.{round-begun}
use Rattle.tko_session.proofs.serving.run_idle_round.Goals as goal

pub returns-clause-begun : goal.returns-clause-begun
returns-clause-begun g c = round-begun c.round.ensures.round
