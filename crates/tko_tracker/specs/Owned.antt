-- The bits of the servers that a pass owns.
use Rattle.std.specs.Prelude.{◌≡◌, ℕ, ◌/◌, ◌%◌, ◌==◌, Bool, List, slice_index_or}
use Rattle.std.specs.Int.{bit_at}
use Rattle.tko_table.specs.Passes.{owns}

-- the bits of a word
abbrev pub word_bits : ℕ
word_bits = 64

-- how many words have a bit for each server
abbrev pub owned_words : ℕ
owned_words = 4

-- whether the bit of this server is set
unfoldable pub is_set : List ℕ → ℕ → Bool
is_set words server = bit_at (slice_index_or words (server / word_bits) 0) (server % word_bits)
    == 1

-- the bits are those of these servers
pub record AreBitsOf (owned : List ℕ) (words : List ℕ) : Type 0 where
  pub each : (server : ℕ) → is_set words server ≡ owns owned server
