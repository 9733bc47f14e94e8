-- FNV-1a of 32 bits.
use Rattle.std.specs.Prelude.{ℕ, ◌*◌, ◌%◌, ◌^◌, bit_xor, List}
use Rattle.std.specs.List.{fold}

abbrev pub fnv_prime : ℕ
fnv_prime = 16777619

-- the hash with one more byte
abbrev pub fnv1a_step : ℕ → ℕ → ℕ
fnv1a_step hash byte = (bit_xor hash byte * fnv_prime) % 2 ^ 32

-- the hash of bytes, which is start where there are none
abbrev pub fnv1a_from : ℕ → List ℕ → ℕ
fnv1a_from start bytes = fold fnv1a_step start bytes
