use Rattle.tko_health.proofs.SeatingLemmas.{leaves_at_once}
use Rattle.tko_health.proofs.shared_seating.SharedSeatingSeating.leave.Goals as goal

pub returns-clause-leaves : goal.returns-clause-leaves
returns-clause-leaves g c = leaves_at_once c.retire.ensures
