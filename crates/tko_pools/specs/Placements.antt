-- What the JSON of a pool says of how it spreads keys: `distribution`, `hash`, `hash_tag` and
-- `unhashed_prefix`.
use Rattle.std.specs.Prelude.{ℕ, List, [], ◌∷◌, Option, Some, None, codes, option_and_then, unwrap_or}
use Rattle.serde_json.specs.Data.{Data}
use Rattle.serde_json.specs.Find.{get}
use Rattle.tko_pools.specs.Distributions.{distribution_named, ring_kind}
use Rattle.tko_pools.specs.Json.{text_of_value}
use Rattle.tko_pools.specs.declared.distribution.Distribution.{Distribution}
use Rattle.tko_pools.specs.declared.distribution.Distribution.TheVariants as way
use Rattle.tko_ring.specs.Hashing.{hash_named}
use Rattle.tko_ring.specs.declared.key_hash.KeyHash.{KeyHash}
use Rattle.tko_ring.specs.declared.key_hash.KeyHash.TheVariants as hash
use Rattle.tko_ring.specs.declared.key_part.KeyPart.{KeyPart}
use Rattle.tko_ring.specs.declared.key_part.KeyPart.TheVariants as part
use Rattle.tko_ring.specs.declared.kind.RingKind.{RingKind}

-- what the word of a value names, or the default where there is no value
abbrev pub named_or : {T : Type 0} → T → (List ℕ → Option T) → Option Data → Option T
named_or default named None = Some default
named_or default named (Some value) = named (text_of_value value)

-- how a pool spreads keys; without the key by the modulus
unfoldable pub distribution_in : Data → Option Distribution
distribution_in pool = named_or way.Modula distribution_named (get (codes "distribution") pool)

-- the hash of a pool's keys; without the key FNV-1a
unfoldable pub hash_in : Data → Option KeyHash
hash_in pool = named_or hash.Fnv1a hash_named (get (codes "hash") pool)

abbrev pub hash_or_default : Data → KeyHash
hash_or_default pool = unwrap_or (hash_in pool) hash.Fnv1a

-- the kind of ring of a pool, if it has a ring
abbrev pub kind_in : Data → Option RingKind
kind_in pool = option_and_then (λ way. ring_kind way (hash_or_default pool)) (distribution_in pool)

-- what is between the two bytes of a tag
abbrev pub tag_of : List ℕ → KeyPart
tag_of [] = part.Whole
tag_of (opening ∷ []) = part.Whole
tag_of (opening ∷ closing ∷ []) = part.Tagged opening closing
tag_of (opening ∷ closing ∷ other ∷ others) = part.Whole

-- the part of a key that is hashed, by the tag and the prefix of a pool
abbrev pub part_from : Option Data → Option Data → KeyPart
part_from (Some tag) prefix = tag_of (text_of_value tag)
part_from None (Some prefix) = part.AfterPrefix (text_of_value prefix)
part_from None None = part.Whole

-- the part of a key that a pool hashes
abbrev pub part_in : Data → KeyPart
part_in pool = part_from (get (codes "hash_tag") pool) (get (codes "unhashed_prefix") pool)
