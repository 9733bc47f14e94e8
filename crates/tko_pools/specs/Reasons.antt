-- Why a JSON value is no configuration. Each reason is looked for after the ones above it.
use Rattle.std.specs.Prelude.{◌≡◌, ℕ, ◌==◌, nat_lt, not, if◌then◌else◌, List, [], ◌∷◌, length, Option, Some, None, option_map, string_bytes}
use Rattle.std.specs.List.{find, flat_map}
use Rattle.std.specs.Option.{is_none, option_or}
use Rattle.serde_json.specs.Data.{Data}
use Rattle.serde_json.specs.Find.{get}
use Rattle.tko_model.specs.Limits.{max_servers}
use Rattle.tko_pools.specs.declared.fault.ConfigFault.{ConfigFault}
use Rattle.tko_pools.specs.declared.fault.ConfigFault.TheVariants as fault
use Rattle.tko_pools.specs.declared.pool_key.PoolKey.{PoolKey}
use Rattle.tko_pools.specs.Addresses.{is_address}
use Rattle.tko_pools.specs.Json.{Pool, pool_list, pools_in, servers_named}
use Rattle.tko_pools.specs.Numbering.{numbered}
use Rattle.tko_pools.specs.PlacementFlaws.{placement_flaw}
use Rattle.tko_pools.specs.Routes.{RouteRead, route_in}
use Rattle.tko_pools.specs.SoftLimits.{is_no_limit}

pub data Reason : Type 0 where
  -- there is no object of pools
  NoPools : Reason
  -- the pool of this name has no list of one server or more
  EmptyPool : List ℕ → Reason
  -- the item of a pool's list is no address; one that is no text stands as the empty text
  BadAddress : List ℕ → Reason
  -- the pool of this name has a soft limit that is no whole number in its range
  BadSoftLimit : List ℕ → Reason
  -- this key of the pool of this name says nothing of how it spreads keys that it may
  BadKey : PoolKey → List ℕ → Reason
  -- there is no route, or it has another form
  BadRoute : Reason
  -- a child of the route names this pool, which is not there
  NoSuchPool : List ℕ → Reason
  TooManyServers : Reason

-- the first item of a pool's list that is no address
abbrev pub bad_address : List (List ℕ) → Option (List ℕ)
bad_address servers = find (λ text. not (is_address text)) servers

-- what is wrong with the soft limit of a pool
abbrev pub limit_reason : Pool → Option Reason
limit_reason pool = if is_no_limit pool.soft_limit then Some (BadSoftLimit pool.name) else None

-- what is wrong with how a pool spreads keys
abbrev pub key_reason : Pool → Option Reason
key_reason pool = option_map (λ key. BadKey key pool.name) (placement_flaw pool.value)

-- what is wrong with a pool
abbrev pub pool_reason : Pool → Option Reason
pool_reason pool =
    if length pool.servers == 0
    then Some (EmptyPool pool.name)
    else option_or (option_map BadAddress (bad_address pool.servers))
    (option_or (limit_reason pool) (key_reason pool))

-- what is wrong with the first pool that is wrong
abbrev pub pools_reason : List Pool → Option Reason
pools_reason [] = None
pools_reason (pool ∷ pools) = option_or (pool_reason pool) (pools_reason pools)

-- the first child that names no pool
abbrev pub unknown_child : Data → List (List ℕ) → Option (List ℕ)
unknown_child pools children = find (λ name. is_none (get name pools)) children

-- what is wrong with the children of a route
abbrev pub children_reason : Data → List (List ℕ) → Option Reason
children_reason pools children =
    option_or
    (option_map NoSuchPool (unknown_child pools children))
    (if nat_lt max_servers (length (numbered (flat_map (servers_named pools) children)))
    then Some TooManyServers
    else None)

-- what is wrong with a route over these pools, if there is one
abbrev pub route_reason : Data → Option RouteRead → Option Reason
route_reason pools None = Some BadRoute
route_reason pools (Some route) = children_reason pools route.children

-- what is wrong where there are pools, if there are any
abbrev pub pools_and_route_reason : Data → Option Data → Option Reason
pools_and_route_reason root None = Some NoPools
pools_and_route_reason root (Some pools) =
    option_or (pools_reason (pool_list pools)) (route_reason pools (route_in root))

-- what is wrong with a configuration: the first reason that there is
abbrev pub reason_of : Data → Option Reason
reason_of root = pools_and_route_reason root (pools_in root)

-- a fault reports this reason; only memory may take its place
abbrev pub Reports : Option Reason → ConfigFault → Type 0
Reports found fault.Json = ⊥
Reports found fault.NoPools = found ≡ Some NoPools
Reports found (fault.EmptyPool name) = found ≡ Some (EmptyPool (string_bytes name))
Reports found (fault.Address text) = found ≡ Some (BadAddress (string_bytes text))
Reports found (fault.SoftLimit name) = found ≡ Some (BadSoftLimit (string_bytes name))
Reports found (fault.PoolKey key name) = found ≡ Some (BadKey key (string_bytes name))
Reports found fault.Route = found ≡ Some BadRoute
Reports found (fault.NoSuchPool name) = found ≡ Some (NoSuchPool (string_bytes name))
Reports found fault.TooManyServers = found ≡ Some TooManyServers
Reports found fault.Memory = Unit {0}
