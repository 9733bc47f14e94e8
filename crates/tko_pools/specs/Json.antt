-- What the JSON of a configuration says: pools by name, and the route's children.
use Rattle.std.specs.Prelude.{ℕ, if◌then◌else◌, List, [], ◌∷◌, length, take, drop, codes, Option, Some, None, option_map, option_and_then, unwrap_or, is_some}
use Rattle.std.specs.Str.{bytes_eq}
use Rattle.serde_json.specs.Data.{Data, Items, no_items, item, Members, no_members, member}
use Rattle.serde_json.specs.Find.{get, as_array, as_object, as_str}
use Rattle.tko_pools.specs.SoftLimits.{limit_value}

-- the text of a value; anything else has the empty one
abbrev pub text_of_value : Data → List ℕ
text_of_value value = unwrap_or (as_str value) []

-- the texts of a list's items
abbrev pub texts_of : Items → List (List ℕ)
texts_of no_items = []
texts_of (item value items) = text_of_value value ∷ texts_of items

-- a pool: its name, the texts of its list of servers, none where it has no such list, what it has
-- as its soft limit, and its value
pub record Pool : Type 0 where
  pub name : List ℕ
  pub servers : List (List ℕ)
  pub soft_limit : Option Data
  pub value : Data

abbrev pub servers_of : Data → List (List ℕ)
servers_of value =
    unwrap_or (option_map texts_of (option_and_then as_array (get (codes "servers") value))) []

-- the pool that a value is under this name
abbrev pub pool_of : List ℕ → Data → Pool
pool_of name value =
    record {
      name = name;
      servers = servers_of value;
      soft_limit = limit_value value;
      value = value;
    }

-- the pools, in the byte order of their names
abbrev pub pools_of : Members → List Pool
pools_of no_members = []
pools_of (member name value members) =
    pool_of name value ∷ pools_of members

-- a value, where it is an object
abbrev pub if_object : Data → Option Data
if_object value = if is_some (as_object value) then Some value else None

-- the object of pools, where there is one
abbrev pub pools_in : Data → Option Data
pools_in root = option_and_then if_object (get (codes "pools") root)

-- the pools of the object of pools
abbrev pub pool_list : Data → List Pool
pool_list pools = unwrap_or (option_map pools_of (as_object pools)) []

-- the servers of the pool of a name
abbrev pub servers_named : Data → List ℕ → List (List ℕ)
servers_named pools name = unwrap_or (option_map servers_of (get name pools)) []

-- how the text of a child begins
abbrev pub child_prefix : List ℕ
child_prefix = codes "PoolRoute|"

-- the pool that the text of a child names
abbrev pub child_name : List ℕ → Option (List ℕ)
child_name text =
    let count = length child_prefix in
    if bytes_eq (take count text) child_prefix then Some (drop count text) else None

-- the pools that texts name, where each of them names one
abbrev pub child_names : List (List ℕ) → Option (List (List ℕ))
child_names [] = Some []
child_names (text ∷ texts) =
    option_and_then
    (λ name. option_map (λ names. name ∷ names) (child_names texts))
    (child_name text)
