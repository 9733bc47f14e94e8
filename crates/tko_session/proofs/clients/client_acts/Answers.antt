use Rattle.tko_session.proofs.ActLemmas.{acted}
use Rattle.tko_session.proofs.clients.client_acts.Goals as goal

pub returns : goal.returns
returns c = acted
