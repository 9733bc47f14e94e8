-- A child of the route: the servers of its pool, and to which of them a key belongs.
use Rattle.std.specs.Prelude.{◌≡◌, ℕ, ◌%◌, ◌<◌, List, [], ◌∷◌, Option, Some, None, IfSome, length, map, slice_index}
use Rattle.serde_json.specs.Data.{Data}
use Rattle.serde_json.specs.Find.{get}
use Rattle.tko_pools.specs.Json.{servers_of}
use Rattle.tko_pools.specs.Numbering.{number_in}
use Rattle.tko_pools.specs.Placements.{hash_or_default, kind_in, part_in}
use Rattle.tko_pools.specs.RingServers.{named_servers}
use Rattle.tko_ring.specs.Hashing.{hash_of}
use Rattle.tko_ring.specs.KeyParts.{hashed_part}
use Rattle.tko_ring.specs.Points.{points_of}
use Rattle.tko_ring.specs.Rings.{AreInOrder, BelongsOnlyTo, IsRing, server_place}
use Rattle.tko_ring.specs.Servers.{NamedServer}
use Rattle.tko_ring.specs.declared.key_hash.KeyHash.{KeyHash}
use Rattle.tko_ring.specs.declared.key_part.KeyPart.{KeyPart}
use Rattle.tko_ring.specs.declared.kind.RingKind.{RingKind}
use Rattle.tko_ring.specs.declared.point.Point.{Point}

pub record Child : Type 0 where
  -- the numbers of its servers
  pub servers : List ℕ
  -- by which function and which part of a key is hashed
  pub hash : KeyHash
  pub part : KeyPart
  -- the points of the servers, by their places in the list; none where the modulus chooses
  pub ring : Option (List Point)

-- the hash of a key
abbrev pub hash_by : Child → List ℕ → ℕ
hash_by child key = hash_of child.hash (hashed_part child.part key)

-- the place of the server that a hash belongs to, in a list of so many
abbrev pub owner_place : Option (List Point) → ℕ → ℕ → ℕ
owner_place None servers hash = hash % servers
owner_place (Some ring) servers hash = server_place ring hash

-- the server that a hash belongs to
abbrev pub hash_server : Child → ℕ → ℕ
hash_server child hash =
    slice_index child.servers (owner_place child.ring (length child.servers) hash)

-- the server that a key belongs to
abbrev pub key_target : List ℕ → Child → ℕ
key_target key child = hash_server child (hash_by child key)

-- the servers that a key belongs to, one of each child
abbrev pub targets_for : List ℕ → List Child → List ℕ
targets_for key children = map (key_target key) children

-- of a ring the place of each hash is that of one of so many servers
pub record IsRingOver (servers : ℕ) (ring : List Point) : Type 0 where
  pub some : 0 < length ring
  pub ordered : AreInOrder ring
  pub within : (hash : ℕ) → server_place ring hash < servers

-- there is a server, and the ring, if there is one, is over the servers
pub record IsSoundChild (child : Child) : Type 0 where
  pub some : 0 < length child.servers
  pub ring : IfSome child.ring (IsRingOver (length child.servers))

-- whatever a ring has of a kind are the points of these servers, in order
abbrev pub IsRingIn : List NamedServer → Option RingKind → Option (List Point) → Type 0
IsRingIn servers None None = Unit {0}
IsRingIn servers None (Some ring) = ⊥
IsRingIn servers (Some kind) None = ⊥
IsRingIn servers (Some kind) (Some ring) = IsRing (points_of kind servers) ring

-- a child is this pool, whose servers have these numbers
pub record IsChildOf (addresses : List (List ℕ)) (pool : Data) (child : Child) : Type 0 where
  pub servers : child.servers ≡ map (number_in addresses) (servers_of pool)
  pub hash : child.hash ≡ hash_or_default pool
  pub part : child.part ≡ part_in pool
  pub ring : IsRingIn (named_servers pool) (kind_in pool) child.ring

-- a child is the pool of this name
pub record IsChildNamed (addresses : List (List ℕ)) (pools : Data) (name : List ℕ) (child : Child)
    : Type 0 where
  pub pool : Data
  pub named : get name pools ≡ Some pool
  pub is : IsChildOf addresses pool child

-- children are the pools of these names, in their order
abbrev pub AreChildren : List (List ℕ) → Data → List (List ℕ) → List Child → Type 0
AreChildren addresses pools [] [] = Unit {0}
AreChildren addresses pools [] (child ∷ children) = ⊥
AreChildren addresses pools (name ∷ names) [] = ⊥
AreChildren addresses pools (name ∷ names) (child ∷ children) =
    IsChildNamed addresses pools name child × AreChildren addresses pools names children

-- the target is the server of the place to which the key's hash belongs: of a ring the one owner of
-- it, in whatever order the points are
pub record IsTarget (key : List ℕ) (child : Child) (target : ℕ) : Type 0 where
  pub place : ℕ
  pub within : place < length child.servers
  pub is : target ≡ slice_index child.servers place
  pub by_modulus : child.ring ≡ None → place ≡ hash_by child key % length child.servers
  pub by_ring : IfSome child.ring (λ ring. BelongsOnlyTo ring (hash_by child key) place)

-- each target is that of its child
abbrev pub AreTargets : List ℕ → List Child → List ℕ → Type 0
AreTargets key [] [] = Unit {0}
AreTargets key [] (target ∷ targets) = ⊥
AreTargets key (child ∷ children) [] = ⊥
AreTargets key (child ∷ children) (target ∷ targets) =
    IsTarget key child target × AreTargets key children targets
