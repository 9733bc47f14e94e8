-- Hashes of keys: a flag of each says whether a value of a list may have the key.
use Rattle.std.specs.Prelude.{◌≡◌, ℕ, ◌-◌, ◌<◌, ◌%◌, All, Bool, true, false, List, drop, length, slice_index_or}
use Rattle.tko_bytes.specs.Hashes.{fnv1a_from}
use Rattle.tko_text.specs.declared.response.place.ValuePlace.{ValuePlace}

-- how many of its last bytes a key is hashed by
abbrev pub hashed_bytes : ℕ
hashed_bytes = 16

-- the hash of a key, which is the same for equal keys
unfoldable pub key_hash : List ℕ → ℕ
key_hash key = fnv1a_from 0 (drop (length key - hashed_bytes) key)

-- the flag of each key is set
pub record AreSeen (seen : List Bool) (places : List ValuePlace) : Type 0 where
  pub some : 0 < length seen
  pub each : All (λ (place : ValuePlace).
      slice_index_or seen (key_hash place.key % length seen) false ≡ true) places
