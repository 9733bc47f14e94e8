use Rattle.tko_worker.proofs.ActedLemmas.{worker_acted_on}
use Rattle.tko_worker.proofs.law.acts_compose.Goals as goal

pub returns : goal.returns
returns g c = λ one two three first second.
    worker_acted_on (g.T.Talking.awaited, g.T.Talking.talk, g.L.Port.port) one two three first
    second
