use Rattle.std.proofs.Common.{◌≡◌, take}
use Rattle.tko_ring.specs.Servers.{total_weight}
use Rattle.tko_ring.proofs.points.total_weight.Given as goal

abbrev pub invariant-loop-server : goal.invariant-loop-server
invariant-loop-server l = l.total ≡ total_weight (take l.server-index l.servers)
