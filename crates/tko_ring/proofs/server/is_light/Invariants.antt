use Rattle.std.proofs.Common.{◌≡◌, ◌+◌, ◌^◌, take}
use Rattle.tko_ring.specs.Servers.{total_weight}
use Rattle.tko_ring.proofs.server.is_light.Given as goal

-- the room that the servers so far leave
abbrev pub invariant-loop-server : goal.invariant-loop-server
invariant-loop-server l = l.room + total_weight (take l.server-index l.servers) ≡ 2 ^ 24
