-- FNV in 32 bits over bytes as nutcracker and libmemcached read them on x86-64, where a `char` is
-- signed.
use Rattle.std.specs.Prelude.{ℕ, ◌+◌, ◌*◌, ◌%◌, ◌^◌, bit_xor, nat_lt, if◌then◌else◌, List}
use Rattle.std.specs.List.{fold}

-- a signed byte in 32 bits: from 128 on its upper 24 bits are set
abbrev pub sign_extended : ℕ → ℕ
sign_extended byte = if nat_lt byte 128 then byte else 0xffffff00 + byte

-- FNV-1a with one more byte
abbrev pub fnv1a_signed_step : ℕ → ℕ → ℕ → ℕ
fnv1a_signed_step prime hash byte = (bit_xor hash (sign_extended byte) * prime) % 2 ^ 32

-- FNV-1 with one more byte
abbrev pub fnv1_signed_step : ℕ → ℕ → ℕ → ℕ
fnv1_signed_step prime hash byte = bit_xor ((hash * prime) % 2 ^ 32) (sign_extended byte)

-- FNV-1a of bytes
abbrev pub fnv1a_signed : ℕ → ℕ → List ℕ → ℕ
fnv1a_signed start prime bytes = fold (fnv1a_signed_step prime) start bytes

-- FNV-1 of bytes
abbrev pub fnv1_signed : ℕ → ℕ → List ℕ → ℕ
fnv1_signed start prime bytes = fold (fnv1_signed_step prime) start bytes
