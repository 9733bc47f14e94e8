use Rattle.tko_health.proofs.LockFreeLemmas.{followed}
use Rattle.tko_health.proofs.laws.shared_health_follows.Goals as goal

pub returns : goal.returns
returns g c = λ old new items of gains. followed g.N.Named.tracker old new items of gains.leads
