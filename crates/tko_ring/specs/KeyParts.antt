-- What part of a key is hashed.
use Rattle.std.specs.Prelude.{ℕ, ◌==◌, if◌then◌else◌, List, [], ◌∷◌, Option, Some, None, bytes_eq, drop, length, option_and_then, option_map, take}
use Rattle.tko_ring.specs.declared.key_part.KeyPart.{KeyPart}
use Rattle.tko_ring.specs.declared.key_part.KeyPart.TheVariants as part

-- what stands before the first of these bytes in a text, if there is one
abbrev pub before_byte : ℕ → List ℕ → Option (List ℕ)
before_byte byte [] = None
before_byte byte (x ∷ rest) =
    if x == byte then Some [] else option_map (λ text. x ∷ text) (before_byte byte rest)

-- what follows the first of these bytes in a text, if there is one
abbrev pub after_byte : ℕ → List ℕ → Option (List ℕ)
after_byte byte [] = None
after_byte byte (x ∷ rest) = if x == byte then Some rest else after_byte byte rest

-- what stands between the first opening byte and the next closing one
abbrev pub tag_text : ℕ → ℕ → List ℕ → Option (List ℕ)
tag_text opening closing key = option_and_then (before_byte closing) (after_byte opening key)

-- a text of one byte or more, or else the key
abbrev pub text_or : Option (List ℕ) → List ℕ → List ℕ
text_or None key = key
text_or (Some []) key = key
text_or (Some (byte ∷ rest)) key = byte ∷ rest

-- a text without its prefix, or as it is where it has another
abbrev pub without_prefix : List ℕ → List ℕ → List ℕ
without_prefix prefix key =
    if bytes_eq (take (length prefix) key) prefix then drop (length prefix) key else key

-- the part of a key that is hashed
abbrev pub hashed_part : KeyPart → List ℕ → List ℕ
hashed_part part.Whole key = key
hashed_part (part.Tagged opening closing) key = text_or (tag_text opening closing key) key
hashed_part (part.AfterPrefix prefix) key = without_prefix prefix key
