use Rattle.tko_health.proofs.SeatingLemmas.{leaves_later}
use Rattle.tko_threads.proofs.LeavingLemmas.{released_each}
use Rattle.tko_threads.proofs.leaving.leave.Goals as goal

pub returns-clause-leaves : goal.returns-clause-leaves
returns-clause-leaves g c = leaves_later (released_each c.release_all.ensures) c.leave.ensures.leaves
