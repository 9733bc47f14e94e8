use Rattle.std.proofs.Common.{◌≡◌}
use Rattle.tko_threads.specs.Leaving.{ReleasesEach}
use Rattle.tko_threads.proofs.leaving.release_all.Given as goal

abbrev pub invariant-loop-server : goal.invariant-loop-server
invariant-loop-server g l =
    (g.H.Health.servers l.health ≡ l.server-end)
    × ReleasesEach g.H.Health.steps l.server l.fn.health l.health
