use Rattle.std.proofs.Common.{◌≡◌, drop, map}
use Rattle.std.specs.List.{flat_map, fold}
use Rattle.serde_json.specs.View.{view}
use Rattle.tko_pools.specs.Configs.{addresses_of}
use Rattle.tko_pools.specs.Json.{servers_named}
use Rattle.tko_pools.specs.Numbering.{with_address}
use Rattle.tko_pools.proofs.config.route_pools.addresses_of.Given as goal

-- the pools that are left give the addresses that all of them give
abbrev pub invariant-loop-name : goal.invariant-loop-name
invariant-loop-name l =
    fold
    with_address
    l.addresses
    (flat_map (servers_named (view l.pools)) (map (λ name. name.now) (drop l.name-index l.names)))
    ≡ addresses_of (view l.pools) (map (λ name. name.now) l.names)
