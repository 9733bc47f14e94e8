-- What in a configuration has no effect.
use Rattle.std.specs.Prelude.{ℕ, List, [], ◌∷◌, ◌++◌, if◌then◌else◌, codes, option_map, unwrap_or}
use Rattle.json.specs.Print.{quoted}
use Rattle.serde_json.specs.Data.{Data, Members, no_members, member}
use Rattle.serde_json.specs.Find.{get}
use Rattle.tko_explain.specs.Parts.{members_in, pool_names_of}
use Rattle.tko_pools.specs.RingServers.{is_in_names}

-- the keys that are read, of the whole, of a pool and of a route
abbrev pub root_keys : List (List ℕ)
root_keys = codes "pools" ∷ codes "route" ∷ []

abbrev pub pool_keys : List (List ℕ)
pool_keys = codes "servers" ∷ codes "soft_limit" ∷ codes "distribution" ∷ codes "hash"
    ∷ codes "hash_tag" ∷ codes "unhashed_prefix" ∷ codes "weights" ∷ codes "names" ∷ []

abbrev pub route_keys : List (List ℕ)
route_keys = codes "type" ∷ codes "children" ∷ codes "failover_exptime" ∷ []

-- a key in this place, unless it is one of those that are read
abbrev pub key_text : List ℕ → List (List ℕ) → List ℕ → List ℕ
key_text place keys key =
    if is_in_names keys key then []
    else codes "warning: key " ++ quoted key ++ place ++ codes " is ignored\n"

-- each key in this place that is none of those that are read
abbrev pub ignored_text : List ℕ → List (List ℕ) → Members → List ℕ
ignored_text place keys no_members = []
ignored_text place keys (member key value others) =
    key_text place keys key ++ ignored_text place keys others

-- a pool, unless a child names it
abbrev pub unnamed_text : List (List ℕ) → List ℕ → List ℕ
unnamed_text names name =
    if is_in_names names name then []
    else codes "warning: no child of the route names pool " ++ quoted name ++ codes "\n"

abbrev pub pool_place : List ℕ → List ℕ
pool_place name = codes " of pool " ++ quoted name

-- of a pool the keys that are not read, and whether no child names it
unfoldable pub pool_text : List (List ℕ) → List ℕ → Members → List ℕ
pool_text names name members =
    ignored_text (pool_place name) pool_keys members ++ unnamed_text names name

-- the same of each pool
abbrev pub pools_text : List (List ℕ) → Members → List ℕ
pools_text names no_members = []
pools_text names (member name pool others) =
    pool_text names name (members_in pool) ++ pools_text names others

-- the members of what the whole has under a key
abbrev pub members_at : List ℕ → Data → Members
members_at key root = unwrap_or (option_map members_in (get key root)) no_members

-- what has no effect: keys of the whole, then of the route, then the pools in the order of names
abbrev pub warnings_text : Data → List ℕ
warnings_text root =
    ignored_text [] root_keys (members_in root)
    ++ ignored_text (codes " of the route") route_keys (members_at (codes "route") root)
    ++ pools_text (pool_names_of root) (members_at (codes "pools") root)
