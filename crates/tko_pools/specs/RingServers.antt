-- The servers of a pool with the names and weights from which the points of its ring are made.
use Rattle.std.specs.Prelude.{ℕ, ◌+◌, ◌^◌, nat_le, nat_lt, Bool, true, not, ◌&&◌, if◌then◌else◌, List, [], ◌∷◌, Option, Some, None, bytes_eq, codes, length, option_and_then, option_map, unwrap_or}
use Rattle.std.specs.List.{list_all, list_any}
use Rattle.serde_json.specs.Data.{Data}
use Rattle.serde_json.specs.Find.{as_number, as_u64, at, get}
use Rattle.tko_pools.specs.Json.{servers_of, text_of_value}
use Rattle.tko_ring.specs.Names.{default_name}
use Rattle.tko_ring.specs.Servers.{NamedServer, total_weight}

-- the most weight of all servers of a pool together
abbrev pub max_weight : ℕ
max_weight = 2 ^ 24

abbrev pub weight_below : ℕ → ℕ
weight_below n = if nat_le n max_weight then n else 0

-- a whole number from 1 to the most weight; 0 stands for anything else
abbrev pub weight_value : Data → ℕ
weight_value value =
    unwrap_or (option_map weight_below (option_and_then as_u64 (as_number value))) 0

-- the weight of the server at this place, by what a pool has as its weights
abbrev pub weight_at : Option Data → ℕ → ℕ
weight_at None place = 1
weight_at (Some weights) place = unwrap_or (option_map weight_value (at place weights)) 0

-- the name of the server at this place and this address, by what a pool has as its names
abbrev pub ring_name : Option Data → ℕ → List ℕ → List ℕ
ring_name None place address = default_name address
ring_name (Some names) place address = unwrap_or (option_map text_of_value (at place names)) []

-- the servers at these addresses, of which the first has this place
abbrev pub named_from : Option Data → Option Data → ℕ → List (List ℕ) → List NamedServer
named_from names weights place [] = []
named_from names weights place (address ∷ others) =
    record { name = ring_name names place address; weight = weight_at weights place }
    ∷ named_from names weights (place + 1) others

-- the servers of a pool with their names and weights
unfoldable pub named_servers : Data → List NamedServer
named_servers pool =
    named_from (get (codes "names") pool) (get (codes "weights") pool) 0 (servers_of pool)

-- whether each server has a weight, and all together not too much
unfoldable pub are_fit : List NamedServer → Bool
are_fit servers =
    nat_lt 0 (length servers) && list_all (λ server. nat_lt 0 server.weight) servers
    && nat_le (total_weight servers) max_weight

abbrev pub is_in_names : List (List ℕ) → List ℕ → Bool
is_in_names names name = list_any (bytes_eq name) names

-- whether no name comes twice
abbrev pub are_distinct : List (List ℕ) → Bool
are_distinct [] = true
are_distinct (name ∷ others) = not (is_in_names others name) && are_distinct others
