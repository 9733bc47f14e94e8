use Rattle.std.proofs.Common.{◌≡◌, drop, map}
use Rattle.tko_pools.specs.RingServers.{are_distinct}
use Rattle.tko_pools.proofs.ring_servers.are_distinct.Given as goal

-- all names differ where those that are left do
abbrev pub invariant-loop-place : goal.invariant-loop-place
invariant-loop-place l =
    are_distinct (map (λ server. server.name) (drop l.place l.servers))
    ≡ are_distinct (map (λ server. server.name) l.servers)
