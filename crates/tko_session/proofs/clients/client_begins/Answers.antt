use Rattle.tko_session.proofs.LifeLemmas.{begins}
use Rattle.tko_session.proofs.clients.client_begins.Goals as goal

pub returns : goal.returns
returns c = λ config plan. begins plan config
