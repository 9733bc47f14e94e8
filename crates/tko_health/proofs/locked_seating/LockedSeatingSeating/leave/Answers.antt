use Rattle.std.proofs.Common.{refl}
use Rattle.tko_health.proofs.SeatingLemmas.{leaves_released}
use Rattle.tko_health.proofs.locked_seating.LockedSeatingSeating.leave.Goals as goal

pub returns-clause-leaves : goal.returns-clause-leaves
returns-clause-leaves g c =
    leaves_released c.release_all.ensures.releases (record { same = refl; none = c.release_all.ensures.none })
