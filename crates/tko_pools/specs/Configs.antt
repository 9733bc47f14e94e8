-- What a configuration is: the servers by their numbers, and each child's servers.
use Rattle.std.specs.Prelude.{◌≡◌, ℕ, ◌<◌, ◌≤◌, List, [], ◌∷◌, length, map, get_or, replicate, All, Option, Some, None, IfSome, is_some, unwrap_or, true, slice_get, option_and_then, option_map}
use Rattle.std.specs.List.{flat_map, range_with_len}
use Rattle.std.specs.Str.{IsUtf8}
use Rattle.serde_json.specs.Data.{Data}
use Rattle.serde_json.specs.Find.{as_object, get}
use Rattle.serde_json.specs.Read.{read}
use Rattle.tko_pools.specs.Groups.{groups_in, places_in}
use Rattle.tko_pools.specs.Children.{AreChildren, AreTargets, Child, IsSoundChild, targets_for}
use Rattle.tko_pools.specs.Json.{pools_in, servers_named, servers_of}
use Rattle.tko_pools.specs.Numbering.{number_in, numbered}
use Rattle.tko_pools.specs.declared.fault.ConfigFault.{ConfigFault}
use Rattle.tko_pools.specs.declared.fault.ConfigFault.TheVariants as fault
use Rattle.tko_model.specs.Limits.{max_servers}
use Rattle.tko_pools.specs.Reasons.{Reports, reason_of}
use Rattle.tko_pools.specs.Routes.{RouteRead, default_exptime, route_in}
use Rattle.tko_model.specs.Limits.{max_limit}
use Rattle.tko_pools.specs.PlacementFlaws.{placement_flaw}
use Rattle.tko_pools.specs.SoftLimits.{soft_limit_named}
use Rattle.tko_ring.specs.declared.key_hash.KeyHash.TheVariants as hash
use Rattle.tko_ring.specs.declared.point.Point.{Point}
use Rattle.tko_ring.specs.declared.key_part.KeyPart.TheVariants as part

pub record Configuration : Type 0 where
  -- the addresses in the order of their numbers
  pub addresses : List (List ℕ)
  -- the names of the pools of the route, in its order
  pub names : List (List ℕ)
  -- the pools of the route
  pub children : List Child
  -- the greatest expiry after the first target
  pub failover_exptime : ℕ
  -- of each server the number of its group
  pub groups : List ℕ
  -- of each group the soft limit of its pool, where the pool has one
  pub soft_limits : List (Option ℕ)

-- the targets of a key: of each child the server that the key belongs to
unfoldable pub targets_of : Configuration → List ℕ → List ℕ
targets_of config key = targets_for key config.children

-- the points of the child at this place, if it has a ring
abbrev pub ring_at : Configuration → ℕ → Option (List Point)
ring_at config place = option_and_then (λ child. child.ring) (slice_get config.children place)

-- the numbers of the servers of the child at this place; none if there is no such child
abbrev pub servers_at : Configuration → ℕ → List ℕ
servers_at config place =
    unwrap_or (option_map (λ child. child.servers) (slice_get config.children place)) []

-- these are the targets of a key: of each child the server that owns the key
abbrev pub AreOwners : Configuration → List ℕ → List ℕ → Type 0
AreOwners config key targets = AreTargets key config.children targets

-- each of these numbers is the number of a server
abbrev pub AreServers : Configuration → List ℕ → Type 0
AreServers config numbers = All (λ number. number < length config.addresses) numbers

-- the soft limit of each group: that of its pool, or else this one
abbrev pub limits_of : Configuration → ℕ → List ℕ
limits_of config default = map (λ limit. unwrap_or limit default) config.soft_limits

-- the addresses of these pools, in the order of their numbers
abbrev pub addresses_of : Data → List (List ℕ) → List (List ℕ)
addresses_of pools names = numbered (flat_map (servers_named pools) names)

-- the numbers of the servers of the pool of this name
abbrev pub child_of : List (List ℕ) → Data → List ℕ → List ℕ
child_of addresses pools name = map (number_in addresses) (servers_named pools name)

-- the soft limits of the pools that these places have among the names
abbrev pub soft_limits_at : Data → List (List ℕ) → List ℕ → List (Option ℕ)
soft_limits_at pools names places =
    map (λ place. soft_limit_named pools (get_or names place [])) places

-- the soft limits of the groups of as many servers of these children, which are the pools of names
abbrev pub soft_limits_in : Data → List (List ℕ) → List (List ℕ) → ℕ → List (Option ℕ)
soft_limits_in pools names children servers =
    soft_limits_at pools names (places_in children servers)

-- the numbers of the servers of each child
abbrev pub numbers_of : List Child → List (List ℕ)
numbers_of children = map (λ child. child.servers) children

-- the configuration of these pools and this route, which has these children
abbrev pub configuration : Data → RouteRead → List Child → Configuration
configuration pools route children =
    let addresses = addresses_of pools route.children in
    let numbers = numbers_of children in
    record {
      addresses = addresses;
      names = route.children;
      children = children;
      failover_exptime = route.failover_exptime;
      groups = groups_in numbers (length addresses);
      soft_limits = soft_limits_in pools route.children numbers (length addresses);
    }

-- a configuration is that of these pools and this route
pub record IsConfiguration (pools : Data) (route : RouteRead) (config : Configuration)
    : Type 0 where
  pub children :
      AreChildren (addresses_of pools route.children) pools route.children config.children
  pub is : config ≡ configuration pools route config.children

-- a pool has a server, and says how it spreads keys
pub record IsSoundPool (pool : Data) : Type 0 where
  pub some : 0 < length (servers_of pool)
  pub placed : placement_flaw pool ≡ None

-- there is a pool of this name, and it is sound
pub record IsSoundName (pools : Data) (name : List ℕ) : Type 0 where
  pub pool : Data
  pub named : get name pools ≡ Some pool
  pub sound : IsSoundPool pool

-- the numbers of `count` servers
abbrev pub numbers_below : ℕ → List ℕ
numbers_below count = range_with_len 0 count

-- a child of one server
abbrev pub alone : ℕ → Child
alone number = record {
  servers = number ∷ [];
  hash = hash.Fnv1a;
  part = part.Whole;
  ring = None;
}

-- the configuration without pools: each of these addresses is a child of its own, which is named by
-- it, and all servers are in one group
abbrev pub in_order : List (List ℕ) → Configuration
in_order addresses = record {
  addresses = addresses;
  names = addresses;
  children = map alone (numbers_below (length addresses));
  failover_exptime = default_exptime;
  groups = replicate (length addresses) 0;
  soft_limits = None ∷ [];
}

-- a text is the JSON of this object
pub record IsRoot (text : List ℕ) (root : Data) : Type 0 where
  pub utf8 : IsUtf8 text
  pub json : read text ≡ Some root
  pub object : is_some (as_object root) ≡ true

-- a text is no JSON of an object
abbrev pub IsNoRoot : List ℕ → Type 0
IsNoRoot text = (root : Data) → IsRoot text root → ⊥

-- a text is the JSON of an object with a reason against it, which this fault reports
pub record IsConfigRefused (text : List ℕ) (fault : ConfigFault) : Type 0 where
  pub root : Data
  pub is_root : IsRoot text root
  pub reports : Reports (reason_of root) fault

-- why a text is no configuration; only memory may take the place of the first reason
abbrev pub Refuses : List ℕ → ConfigFault → Type 0
Refuses text fault.Json = IsNoRoot text
Refuses text fault.Memory = Unit {0}
Refuses text other = IsConfigRefused text other

-- there is a group and not more than 256, each server has one of them, and no pool's own soft limit
-- is above 256
pub record AreGroups (config : Configuration) : Type 0 where
  pub some : 0 < length config.soft_limits
  pub few : length config.soft_limits ≤ max_servers
  pub one_each : length config.groups ≡ length config.addresses
  pub within : All (λ group. group < length config.soft_limits) config.groups
  pub small : All (λ limit. IfSome limit (λ n. n ≤ max_limit)) config.soft_limits

-- each child is sound and has a name, each number is below the number of addresses, and the servers
-- have groups
pub record IsSoundConfig (config : Configuration) : Type 0 where
  pub children : All IsSoundChild config.children
  pub named : length config.names ≡ length config.children
  pub numbers :
      All (λ child. All (λ number. number < length config.addresses) child.servers)
      config.children
  pub servers : length config.addresses ≤ max_servers
  pub groups : AreGroups config

-- a value has no reason against it, and means this configuration
pub record IsMeaning (root : Data) (config : Configuration) : Type 0 where
  pub pools : Data
  pub route : RouteRead
  pub sound : reason_of root ≡ None
  pub has_pools : pools_in root ≡ Some pools
  pub has_route : route_in root ≡ Some route
  pub is : IsConfiguration pools route config

-- a text means this configuration
pub record Means (text : List ℕ) (config : Configuration) : Type 0 where
  pub root : Data
  pub is_root : IsRoot text root
  pub meaning : IsMeaning root config
