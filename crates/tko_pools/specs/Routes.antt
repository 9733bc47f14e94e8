-- The route of a configuration: the pools that it tries, in order, and the replaced expiry.
use Rattle.std.specs.Prelude.{ℕ, ◌-◌, ◌^◌, ◌==◌, nat_le, Bool, false, if◌then◌else◌, List, [], ◌∷◌, length, codes, Option, Some, None, option_map, option_and_then, unwrap_or}
use Rattle.std.specs.Str.{bytes_eq}
use Rattle.serde_json.specs.Data.{Data, null, boolean, number, string, array, object, Items}
use Rattle.serde_json.specs.Find.{get, as_array, as_number, as_u64}
use Rattle.tko_pools.specs.Json.{child_name, child_names, text_of_value, texts_of}

-- the names of the pools that are tried, and the greatest expiry behind the first target
pub record RouteRead : Type 0 where
  pub children : List (List ℕ)
  pub failover_exptime : ℕ

abbrev pub default_exptime : ℕ
default_exptime = 60

abbrev pub max_exptime : ℕ
max_exptime = 2 ^ 31 - 1

-- a route over these children
abbrev pub route_over : List (List ℕ) → ℕ → RouteRead
route_over children exptime = record { children = children; failover_exptime = exptime }

abbrev pub names_failover : Data → Bool
names_failover kind = bytes_eq (text_of_value kind) (codes "FailoverRoute")

-- whether an object is a failover route
abbrev pub is_failover : Data → Bool
is_failover value =
    unwrap_or (option_map names_failover (get (codes "type") value)) false

-- the pools that a list of children names: there is one or more, and each is the text of a child
abbrev pub names_in : Items → Option (List (List ℕ))
names_in items = if length (texts_of items) == 0 then None else child_names (texts_of items)

abbrev pub listed_children : Data → Option (List (List ℕ))
listed_children value =
    option_and_then names_in (option_and_then as_array (get (codes "children") value))

abbrev pub exptime_below : ℕ → Option ℕ
exptime_below n = if nat_le n max_exptime then Some n else None

-- a whole number in its range
abbrev pub exptime_of : Data → Option ℕ
exptime_of value = option_and_then exptime_below (option_and_then as_u64 (as_number value))

-- the replaced expiry, where it is there in its range or is not there
abbrev pub exptime_or_default : Option Data → Option ℕ
exptime_or_default None = Some default_exptime
exptime_or_default (Some value) = exptime_of value

abbrev pub exptime_in : Data → Option ℕ
exptime_in value = exptime_or_default (get (codes "failover_exptime") value)

-- a failover route, where the object is one
abbrev pub failover_route : Data → Option RouteRead
failover_route value =
    if is_failover value
    then option_and_then
    (λ children. option_map (route_over children) (exptime_in value))
    (listed_children value)
    else None

-- the route of one child
abbrev pub single_route : List ℕ → Option RouteRead
single_route text = option_map (λ name. route_over (name ∷ []) default_exptime) (child_name text)

-- what a route's value says, where it is a route
abbrev pub route_of : Data → Option RouteRead
route_of null = None
route_of (boolean b) = None
route_of (number n) = None
route_of (string text) = single_route text
route_of (array items) = None
route_of (object members) = failover_route (object members)

-- the route of a configuration
abbrev pub route_in : Data → Option RouteRead
route_in root = option_and_then route_of (get (codes "route") root)
