-- What is wrong with how a pool spreads keys over its servers.
use Rattle.std.specs.Prelude.{ℕ, ◌==◌, nat_le, Bool, false, not, ◌&&◌, ◌||◌, if◌then◌else◌, List, [], Option, Some, None, codes, is_some, length, map, option_map, unwrap_or}
use Rattle.std.specs.List.{list_all}
use Rattle.std.specs.Option.{is_none}
use Rattle.serde_json.specs.Data.{Data}
use Rattle.serde_json.specs.Find.{as_array, get}
use Rattle.tko_pools.specs.Distributions.{is_ketama, is_ring}
use Rattle.tko_pools.specs.Json.{servers_of, text_of_value, texts_of}
use Rattle.tko_pools.specs.Placements.{distribution_in, hash_in}
use Rattle.tko_pools.specs.RingServers.{are_distinct, are_fit, named_servers}
use Rattle.tko_pools.specs.declared.distribution.Distribution.{Distribution}
use Rattle.tko_pools.specs.declared.pool_key.PoolKey.{PoolKey}
use Rattle.tko_pools.specs.declared.pool_key.PoolKey.TheVariants as key

-- the texts of a list's items, none of anything else
abbrev pub listed_texts : Data → List (List ℕ)
listed_texts value = unwrap_or (option_map texts_of (as_array value)) []

-- whether a list has as many items as a pool has servers
abbrev pub is_one_each : Data → Data → Bool
is_one_each pool value = length (listed_texts value) == length (servers_of pool)

-- something as a tag that is no text of two bytes
abbrev pub is_misfit_tag : Option Data → Bool
is_misfit_tag None = false
is_misfit_tag (Some value) = not (length (text_of_value value) == 2)

-- 1 to 250 bytes
abbrev pub is_prefix : List ℕ → Bool
is_prefix text = nat_le 1 (length text) && nat_le (length text) 250

-- something as a prefix that is none, or a tag beside it
abbrev pub is_misfit_prefix : Option Data → Option Data → Bool
is_misfit_prefix None tag = false
is_misfit_prefix (Some value) tag = is_some tag || not (is_prefix (text_of_value value))

-- something as weights, but not by `ketama`, or not as many as servers
abbrev pub are_misfit_weights : Distribution → Data → Option Data → Bool
are_misfit_weights way pool None = false
are_misfit_weights way pool (Some value) = not (is_ketama way) || not (is_one_each pool value)

-- an ASCII character that is printed, the space too
abbrev pub is_printable : ℕ → Bool
is_printable byte = nat_le 32 byte && nat_le byte 126

-- 1 to 255 of them
abbrev pub is_name : List ℕ → Bool
is_name text =
    not (length text == 0) && nat_le (length text) 255 && list_all is_printable text

abbrev pub are_names : List (List ℕ) → Bool
are_names texts = list_all is_name texts

-- something as names, but by `modula`, not as many as servers, or one that is no name
abbrev pub are_misfit_names : Distribution → Data → Option Data → Bool
are_misfit_names way pool None = false
are_misfit_names way pool (Some value) =
    not (is_ring way) || not (is_one_each pool value) || not (are_names (listed_texts value))

-- the weights are no list for the servers, or some server of a ring has none or all too much
abbrev pub weights_are_wrong : Distribution → Data → Bool
weights_are_wrong way pool =
    are_misfit_weights way pool (get (codes "weights") pool)
    || (is_ring way && not (are_fit (named_servers pool)))

-- the names are no list for the servers, or two servers of a ring have one name
abbrev pub names_are_wrong : Distribution → Data → Bool
names_are_wrong way pool =
    are_misfit_names way pool (get (codes "names") pool)
    || (is_ring way && not (are_distinct (map (λ server. server.name) (named_servers pool))))

abbrev pub servers_flaw : Distribution → Data → Option PoolKey
servers_flaw way pool =
    if weights_are_wrong way pool then Some key.Weights
    else if names_are_wrong way pool then Some key.Names
    else None

-- the first key that is wrong, of a pool with this distribution
abbrev pub flaw_by : Option Distribution → Data → Option PoolKey
flaw_by None pool = Some key.Distribution
flaw_by (Some way) pool =
    if is_none (hash_in pool) then Some key.Hash
    else if is_misfit_tag (get (codes "hash_tag") pool) then Some key.HashTag
    else if is_misfit_prefix (get (codes "unhashed_prefix") pool) (get (codes "hash_tag") pool)
    then Some key.UnhashedPrefix
    else servers_flaw way pool

-- the first key of a pool that is wrong, of those that say how it spreads keys
unfoldable pub placement_flaw : Data → Option PoolKey
placement_flaw pool = flaw_by (distribution_in pool) pool
