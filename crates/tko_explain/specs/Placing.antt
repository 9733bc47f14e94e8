-- How the pools of a route spread keys over their servers.
use Rattle.std.specs.Prelude.{ℕ, ◌+◌, ◌==◌, ◌&&◌, not, Bool, if◌then◌else◌, List, [], ◌∷◌, ◌++◌, Option, Some, None, codes, get_or, is_some, length, map, unwrap_or}
use Rattle.std.specs.List.{list_any, range_with_len}
use Rattle.json.specs.Print.{quoted}
use Rattle.serde_json.specs.Data.{Data}
use Rattle.serde_json.specs.Find.{get}
use Rattle.tko_explain.specs.Printing.{named_line}
use Rattle.tko_pools.specs.Distributions.{distribution_word}
use Rattle.tko_pools.specs.Json.{servers_of}
use Rattle.tko_pools.specs.Placements.{distribution_in, hash_or_default}
use Rattle.tko_pools.specs.declared.distribution.Distribution.TheVariants as way
use Rattle.tko_ring.specs.Hashing.{hash_word}
use Rattle.tko_ring.specs.declared.point.Point.{Point}

-- the keys of a pool that say how it spreads keys
abbrev pub placement_keys : List (List ℕ)
placement_keys = codes "distribution" ∷ codes "hash" ∷ codes "hash_tag" ∷ codes "unhashed_prefix"
    ∷ codes "weights" ∷ codes "names" ∷ []

-- whether a pool has one of them
unfoldable pub is_placed : Data → Bool
is_placed pool = list_any (λ key. is_some (get key pool)) placement_keys

-- the distribution and the hash of a pool
unfoldable pub placement_words : Data → List ℕ
placement_words pool =
    codes " " ++ distribution_word (unwrap_or (distribution_in pool) way.Modula)
    ++ codes " " ++ hash_word (hash_or_default pool)

-- the same as a line
abbrev pub distribution_text : List ℕ → Data → List ℕ
distribution_text name pool =
    codes "distribution " ++ quoted name ++ placement_words pool ++ codes "\n"

-- 1 for a point of the server at a place, 0 for one of another
abbrev pub one_at : ℕ → Point → ℕ
one_at place point = if point.place == place then 1 else 0

-- how many points the server at a place has
abbrev pub points_at : List Point → ℕ → ℕ
points_at [] place = 0
points_at (point ∷ others) place = one_at place point + points_at others place

-- of a ring how many points each of so many servers has
unfoldable pub points_text : List ℕ → ℕ → Option (List Point) → List ℕ
points_text name servers None = []
points_text name servers (Some ring) =
    named_line (codes "points ") name (map (points_at ring) (range_with_len 0 servers))

-- how a pool spreads keys, if it says anything of that
unfoldable pub placement_text : List ℕ → Data → Option (List Point) → List ℕ
placement_text name pool ring =
    if is_placed pool
    then distribution_text name pool ++ points_text name (length (servers_of pool)) ring
    else []

-- the same of a pool that may be there
abbrev pub placed_text : List ℕ → Option Data → Option (List Point) → List ℕ
placed_text name None ring = []
placed_text name (Some pool) ring = placement_text name pool ring

-- the pool of this name, and what is said of it
unfoldable pub in_pool : List ℕ → List ℕ → List ℕ
in_pool name words = codes " of pool " ++ quoted name ++ words

-- a server, if it has no point, and what is said of it
abbrev pub pointless_line : List ℕ → List ℕ → ℕ → List ℕ
pointless_line words address points =
    if points == 0 then codes "warning: server " ++ quoted address ++ words ++ codes "\n" else []

-- each server of a ring that has no point, of which the first has this place
abbrev pub pointless_from : List ℕ → List Point → ℕ → List (List ℕ) → List ℕ
pointless_from words ring place [] = []
pointless_from words ring place (address ∷ others) =
    pointless_line words address (points_at ring place)
    ++ pointless_from words ring (place + 1) others

abbrev pub pointless_text : List ℕ → List (List ℕ) → List Point → List ℕ
pointless_text name addresses ring =
    pointless_from (in_pool name (codes " has no point, so no key")) ring 0 addresses

-- the second of two servers, and what is said of them
unfoldable pub and_second : List ℕ → List ℕ → List ℕ
and_second second words = codes " and " ++ quoted second ++ words

-- two servers that share a point, and what is said of them
abbrev pub shared_line : List ℕ → List ℕ → List ℕ → List ℕ
shared_line words first second =
    codes "warning: servers " ++ quoted first ++ and_second second words ++ codes "\n"

-- whether two points are one, of two servers
abbrev pub is_shared : Point → Point → Bool
is_shared first second = first.value == second.value && not (first.place == second.place)

-- the servers of a point and of the next one, if the two share it
abbrev pub shared_by : List ℕ → List (List ℕ) → Point → List Point → List ℕ
shared_by words addresses first [] = []
shared_by words addresses first (second ∷ others) =
    if is_shared first second
    then shared_line words (get_or addresses first.place []) (get_or addresses second.place [])
    else []

-- each two servers that share a point of these
abbrev pub shared_among : List ℕ → List (List ℕ) → List Point → List ℕ
shared_among words addresses [] = []
shared_among words addresses (first ∷ others) =
    shared_by words addresses first others ++ shared_among words addresses others

abbrev pub shared_text : List ℕ → List (List ℕ) → List Point → List ℕ
shared_text name addresses ring =
    shared_among (in_pool name (codes " share a point, and the first in the list has it"))
    addresses ring

-- what is to be known of a ring over these addresses
unfoldable pub ring_text : List ℕ → List (List ℕ) → Option (List Point) → List ℕ
ring_text name addresses None = []
ring_text name addresses (Some ring) =
    pointless_text name addresses ring ++ shared_text name addresses ring
