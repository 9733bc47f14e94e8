use Rattle.std.proofs.Common.{◌≡◌, ◌++◌, drop}
use Rattle.std.specs.Prelude.{option_map}
use Rattle.serde_json.specs.View.{items_view, view}
use Rattle.tko_pools.specs.Json.{texts_of}
use Rattle.tko_pools.specs.RingServers.{named_from}
use Rattle.tko_pools.proofs.ring_servers.servers_named.Given as goal

-- the servers so far, and then those of the addresses that are left, are all servers
abbrev pub invariant-loop-place : goal.invariant-loop-place
invariant-loop-place l =
    l.servers.items
    ++ named_from (option_map (λ names. view names.now) l.names) (option_map (λ weights. view weights.now) l.weights)
    l.place (texts_of (items_view (drop l.place l.addresses)))
    ≡ named_from (option_map (λ names. view names.now) l.names) (option_map (λ weights. view weights.now) l.weights)
    0 (texts_of (items_view l.addresses))
