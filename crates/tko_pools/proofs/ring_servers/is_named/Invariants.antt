use Rattle.std.proofs.Common.{◌≡◌, drop, map}
use Rattle.tko_pools.specs.RingServers.{is_in_names}
use Rattle.tko_pools.proofs.ring_servers.is_named.Given as goal

-- it is among those that are left where it is among all
abbrev pub invariant-loop-server : goal.invariant-loop-server
invariant-loop-server l =
    is_in_names (map (λ server. server.name) (drop l.server-index l.servers)) l.name
    ≡ is_in_names (map (λ server. server.name) l.servers) l.name
