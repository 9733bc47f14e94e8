use Rattle.tko_worker.proofs.ServedLemmas.{all_served}
use Rattle.tko_worker.proofs.law.clients_act.Goals as goal

pub returns : goal.returns
returns g c = λ old new acted.
    all_served (g.T.Talking.awaited, g.T.Talking.talk, g.L.Port.port) old new acted
