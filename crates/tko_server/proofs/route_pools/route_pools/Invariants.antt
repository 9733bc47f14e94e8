use Rattle.std.proofs.Common.{◌≡◌, map, string_bytes, take}
use Rattle.tko_pools.specs.Configs.{numbers_below, servers_at}
use Rattle.tko_server.proofs.route_pools.route_pools.Given as goal

-- the pools so far have the names and the servers of the places so far
abbrev pub invariant-loop-place : goal.invariant-loop-place
invariant-loop-place l =
    (map (λ pool. string_bytes pool.name) l.pools.items ≡ map string_bytes (take l.place l.names))
    × (map (λ pool. pool.servers.items) l.pools.items
    ≡ map (servers_at l.config) (numbers_below l.place))
