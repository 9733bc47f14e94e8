-- The points of a pool's servers.
use Rattle.std.specs.Prelude.{ℕ, ◌+◌, List, [], ◌∷◌, ◌++◌, length, map, codes, decimal}
use Rattle.std.specs.List.{flat_map, range_with_len}
use Rattle.md5.specs.Md5.{md5, word_at}
use Rattle.tko_ring.specs.Digests.{digests_of}
use Rattle.tko_ring.specs.Hashing.{hash_of}
use Rattle.tko_ring.specs.Servers.{NamedServer, total_weight}
use Rattle.tko_ring.specs.declared.point.Point.{Point}
use Rattle.tko_ring.specs.declared.kind.RingKind.{RingKind}
use Rattle.tko_ring.specs.declared.kind.RingKind.TheVariants as kind

-- what is hashed for points: `10.0.0.1-0`, `10.0.0.2:11212-7`
abbrev pub label : List ℕ → ℕ → List ℕ
label name number = name ++ codes "-" ++ decimal number

-- how many labels a server of this weight has, of as many servers with this total of weights
abbrev pub labels_of : RingKind → ℕ → ℕ → ℕ → ℕ
labels_of kind.Ketama weight total servers = digests_of weight total servers
labels_of (kind.Consistent hash) weight total servers = 100

-- the points that a label gives: the four numbers of its MD5, low byte first, or its hash
abbrev pub values_at : RingKind → List ℕ → List ℕ
values_at kind.Ketama text =
    word_at (md5 text) 0 ∷ word_at (md5 text) 4 ∷ word_at (md5 text) 8 ∷ word_at (md5 text) 12 ∷ []
values_at (kind.Consistent hash) text = hash_of hash text ∷ []

-- the points of a server with this name and so many labels
unfoldable pub point_values : RingKind → List ℕ → ℕ → List ℕ
point_values kind name labels =
    flat_map (λ number. values_at kind (label name number)) (range_with_len 0 labels)

-- a point of the server at this place
abbrev pub point_at : ℕ → ℕ → Point
point_at place value = record { value = value; place = place }

-- the points of servers, of which the first has this place, and each as many labels as its weight
-- gives
unfoldable pub points_from : RingKind → (ℕ → ℕ) → ℕ → List NamedServer → List Point
points_from kind labels place [] = []
points_from kind labels place (server ∷ rest) =
    map (point_at place) (point_values kind server.name (labels server.weight))
    ++ points_from kind labels (place + 1) rest

-- the points of a pool's servers
abbrev pub points_of : RingKind → List NamedServer → List Point
points_of kind servers =
    points_from kind (λ weight. labels_of kind weight (total_weight servers) (length servers)) 0
    servers
