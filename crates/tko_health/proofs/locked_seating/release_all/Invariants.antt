use Rattle.std.proofs.Common.{◌≡◌, length}
use Rattle.tko_health.specs.Locked.{IsLockedStep}
use Rattle.tko_health.specs.Seating.{ReleasesMarks}
use Rattle.tko_health.proofs.LockedLemmas.{NoneBefore}
use Rattle.tko_health.proofs.locked_seating.release_all.Given as goal

abbrev pub invariant-loop-server : goal.invariant-loop-server
invariant-loop-server g l =
    NoneBefore l.server l.health.owned × (length l.health.owned ≡ g.S.TrackerSettings.settings.servers)
    × ReleasesMarks (λ old it new. IsLockedStep g.S.TrackerSettings.settings old it new) l.fn.health l.health
