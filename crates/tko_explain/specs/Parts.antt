-- Parts of a configuration's JSON.
use Rattle.std.specs.Prelude.{ℕ, List, [], ◌∷◌, codes, map, option_map, option_and_then, unwrap_or}
use Rattle.serde_json.specs.Data.{Data, null, boolean, number, string, array, object, Members, no_members}
use Rattle.serde_json.specs.Find.{get, as_array, as_object}
use Rattle.tko_pools.specs.Json.{child_name, texts_of}

-- the members of an object, and none of anything else
abbrev pub members_in : Data → Members
members_in value = unwrap_or (as_object value) no_members

-- the texts of the list that an object has under a key, and none where it has no such list
abbrev pub list_in : List ℕ → Data → List (List ℕ)
list_in key value =
    unwrap_or (option_map texts_of (option_and_then as_array (get key value))) []

-- the pool that the text of a child names
abbrev pub pool_named : List ℕ → List ℕ
pool_named text = unwrap_or (child_name text) text

-- the pools that a route's value names
abbrev pub names_of : Data → List (List ℕ)
names_of (string text) = pool_named text ∷ []
names_of null = map pool_named (list_in (codes "children") null)
names_of (boolean b) = map pool_named (list_in (codes "children") (boolean b))
names_of (number n) = map pool_named (list_in (codes "children") (number n))
names_of (array items) = map pool_named (list_in (codes "children") (array items))
names_of (object members) = map pool_named (list_in (codes "children") (object members))

-- the pools that the route of a configuration names
abbrev pub pool_names_of : Data → List (List ℕ)
pool_names_of root = unwrap_or (option_map names_of (get (codes "route") root)) []
