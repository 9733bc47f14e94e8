use Rattle.std.proofs.Common.{◌≡◌}
use Rattle.tko_bytes.specs.Numbers.{capped}
use Rattle.tko_threads.specs.Worked.{probes_below}
use Rattle.tko_threads.proofs.working.probes_of.Given as goal

abbrev pub invariant-loop-server : goal.invariant-loop-server
invariant-loop-server g l = l.probes ≡ capped (probes_below (g.L.Links.probed l.links) l.server)
