-- The line that says why a text is no configuration.
use Rattle.std.specs.Prelude.{◌≡◌, ℕ, ◌==◌, Bool, ◌&&◌, not, if◌then◌else◌, List, [], ◌∷◌, ◌++◌, Option, Some, None, codes, decimal, is_some, length, nat_eq, option_map, string_bytes, unwrap_or, false}
use Rattle.std.specs.List.{list_all, position_from, starts_with}
use Rattle.std.specs.Str.{IsUtf8, bytes_eq}
use Rattle.json.specs.Print.{quoted}
use Rattle.serde_json.specs.Data.{Data, null, boolean, number, string, array, object}
use Rattle.serde_json.specs.Find.{get}
use Rattle.serde_json.specs.Read.{read}
use Rattle.tko_model.specs.Limits.{max_limit, max_servers}
use Rattle.tko_pools.specs.Addresses.{is_address}
use Rattle.tko_pools.specs.Json.{Pool, child_name, pools_of, text_of_value}
use Rattle.tko_pools.specs.RingServers.{max_weight}
use Rattle.tko_pools.specs.Routes.{max_exptime}
use Rattle.tko_pools.specs.declared.fault.ConfigFault.{ConfigFault}
use Rattle.tko_pools.specs.declared.fault.ConfigFault.TheVariants as fault
use Rattle.tko_pools.specs.declared.pool_key.PoolKey.{PoolKey}
use Rattle.tko_pools.specs.declared.pool_key.PoolKey.TheVariants as key
use Rattle.tko_explain.specs.Parts.{list_in, members_in}

-- the place of the first text that is no address, counted from 1
abbrev pub bad_address_place : List (List ℕ) → Option ℕ
bad_address_place texts = position_from (λ text. not (is_address text)) 1 texts

-- a place in the list of a pool, or without one these words
abbrev pub place_or : List ℕ → Option ℕ → List ℕ → List ℕ
place_or name (Some place) others =
    codes "pool " ++ quoted name ++ codes ", server " ++ decimal place ++ codes ": "
place_or name None others = others

-- where the first text stands that is no address
abbrev pub bad_address_text : List Pool → List ℕ
bad_address_text [] = []
bad_address_text (pool ∷ pools) =
    place_or pool.name (bad_address_place pool.servers) (bad_address_text pools)

-- the same in the object of pools of a configuration
abbrev pub root_place_text : Data → List ℕ
root_place_text root =
    bad_address_text (pools_of (members_in (unwrap_or (get (codes "pools") root) root)))

-- why a text is no address
abbrev pub address_text : List ℕ → List ℕ
address_text text =
    if length text == 0 then codes "it is empty or no text"
    else quoted text ++ codes " is no address <host>:<port>"

abbrev pub is_failover_kind : Option Data → Bool
is_failover_kind kind =
    unwrap_or (option_map (λ value. bytes_eq (text_of_value value) (codes "FailoverRoute")) kind)
    false

abbrev pub is_child : List ℕ → Bool
is_child text = is_some (child_name text)

-- whether there is one or more, and each is the text of a child
abbrev pub are_children : List (List ℕ) → Bool
are_children texts = not (length texts == 0) && list_all is_child texts

-- what is wrong with a route that is an object
abbrev pub object_text : Data → List ℕ
object_text route =
    if not (is_failover_kind (get (codes "type") route))
    then codes "the route's type is not FailoverRoute"
    else if not (are_children (list_in (codes "children") route))
    then codes "the route's children are no list of one or more texts PoolRoute|<pool>"
    else codes "the route's failover_exptime is no whole number from 0 to " ++ decimal max_exptime

-- what is wrong with a route, if there is one
abbrev pub route_text : Option Data → List ℕ
route_text None = codes "there is no route"
route_text (Some null) = codes "the route is neither a text nor an object"
route_text (Some (boolean b)) = codes "the route is neither a text nor an object"
route_text (Some (number n)) = codes "the route is neither a text nor an object"
route_text (Some (array items)) = codes "the route is neither a text nor an object"
route_text (Some (string text)) = codes "the route is a text, but not PoolRoute|<pool>"
route_text (Some (object members)) = object_text (object members)

-- what is wrong with a key of a pool that says how it spreads keys
unfoldable pub key_flaw : PoolKey → List ℕ
key_flaw key.Distribution =
    codes " has a distribution that is none of modula, ketama and consistent"
key_flaw key.Hash =
    codes " has a hash that is none of fnv1a, md5, fnv1a_64, fnv1a_32, fnv1_64, fnv1_32, "
    ++ codes "one_at_a_time, murmur and crc32a"
key_flaw key.HashTag = codes " has a hash_tag that is no text of two bytes"
key_flaw key.UnhashedPrefix =
    codes " has an unhashed_prefix that is no text of 1 to 250 bytes, or a hash_tag beside it"
key_flaw key.Weights =
    codes " has weights without ketama, or not a whole number of at least 1 for each server, "
    ++ codes "together at most " ++ decimal max_weight
key_flaw key.Names =
    codes " has names with modula, or not 1 to 255 bytes of printable ASCII for each server, "
    ++ codes "all different (by default the name is the address)"

-- what is wrong with a pool's own soft limit
unfoldable pub soft_limit_flaw : List ℕ
soft_limit_flaw = codes " has a soft_limit that is no whole number from 0 to " ++ decimal max_limit

-- what is wrong with a route over too many servers
unfoldable pub too_many_text : List ℕ
too_many_text = codes "the route has more than " ++ decimal max_servers ++ codes " servers"

-- what is wrong with this object, as a fault tells it
abbrev pub flaw_text : Data → ConfigFault → List ℕ
flaw_text root fault.Json = codes "the JSON is no object"
flaw_text root fault.NoPools = codes "there is no object of pools"
flaw_text root (fault.EmptyPool name) =
    codes "pool " ++ quoted (string_bytes name) ++ codes " has no list of one or more servers"
flaw_text root (fault.Address text) =
    root_place_text root ++ address_text (string_bytes text)
flaw_text root (fault.SoftLimit name) =
    codes "pool " ++ quoted (string_bytes name) ++ soft_limit_flaw
flaw_text root (fault.PoolKey at name) =
    codes "pool " ++ quoted (string_bytes name) ++ key_flaw at
flaw_text root fault.Route = route_text (get (codes "route") root)
flaw_text root (fault.NoSuchPool name) =
    codes "the route names pool " ++ quoted (string_bytes name) ++ codes ", which is not there"
flaw_text root fault.TooManyServers = too_many_text
flaw_text root fault.Memory = codes "memory ran out"

-- a line of these words
abbrev pub reason_line : List ℕ → List ℕ
reason_line words = codes "config: " ++ words ++ codes "\n"

-- whether a text begins with a byte order mark, U+FEFF in UTF-8
abbrev pub has_mark : List ℕ → Bool
has_mark text = starts_with nat_eq text (239 ∷ 187 ∷ 191 ∷ [])

abbrev pub byte_order_text : List ℕ
byte_order_text = codes "it begins with a byte order mark, which JSON does not allow"

-- what is said of a text that is no JSON: that it begins with a byte order mark, or what the reader
-- of JSON says of it, with its line and column
pub record IsNoJson (json line : List ℕ) : Type 0 where
  pub none : IsUtf8 json → read json ≡ None
  pub detail : List ℕ
  pub is : line ≡ reason_line (if has_mark json then byte_order_text else detail)

-- what is wrong with the value of a text
pub record IsFlawOf (json : List ℕ) (cause : ConfigFault) (line : List ℕ) : Type 0 where
  pub root : Data
  pub reads : read json ≡ Some root
  pub is : line ≡ reason_line (flaw_text root cause)

-- the line says why a text is no configuration, where this is the fault
pub data IsReasonOf (json : List ℕ) (cause : ConfigFault) (line : List ℕ) : Type 0 where
  NoJson : IsNoJson json line → IsReasonOf json cause line
  Flawed : IsFlawOf json cause line → IsReasonOf json cause line
