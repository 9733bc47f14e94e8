-- The hashes one_at_a_time and MurmurHash2, in 32 bits.
use Rattle.std.specs.Prelude.{ℕ, ◌+◌, ◌*◌, ◌/◌, ◌%◌, ◌^◌, bit_xor, List, [], ◌∷◌, length, drop}
use Rattle.std.specs.Int.{w32, from_le_bytes}
use Rattle.std.specs.List.{fold}
use Rattle.std.specs.Simd.{first_chunks}
use Rattle.tko_ring.specs.Fnv.{sign_extended}

-- x << n, x ^ (x >> n), x + (x << n)
abbrev pub shifted_on : ℕ → ℕ → ℕ
shifted_on x n = (x + x * 2 ^ n % 2 ^ 32) % 2 ^ 32

abbrev pub mixed_down : ℕ → ℕ → ℕ
mixed_down x n = bit_xor x (x / 2 ^ n)

-- one_at_a_time with one more byte, which is a signed one
abbrev pub one_step : ℕ → ℕ → ℕ
one_step hash byte = mixed_down (shifted_on ((hash + sign_extended byte) % 2 ^ 32) 10) 6

-- what follows the last byte
abbrev pub one_end : ℕ → ℕ
one_end hash = shifted_on (mixed_down (shifted_on hash 3) 11) 15

abbrev pub one_at_a_time : List ℕ → ℕ
one_at_a_time bytes = one_end (fold one_step 0 bytes)

abbrev pub murmur_factor : ℕ
murmur_factor = 0x5bd1e995

abbrev pub times_factor : ℕ → ℕ
times_factor x = (x * murmur_factor) % 2 ^ 32

-- the hash of no bytes, of a text of this length
abbrev pub murmur_start : ℕ → ℕ
murmur_start len = bit_xor ((0xdeadbeef * (len % 2 ^ 32)) % 2 ^ 32) (len % 2 ^ 32)

-- MurmurHash2 with four more bytes, low byte first
abbrev pub murmur_step : ℕ → List ℕ → ℕ
murmur_step hash word =
    bit_xor (times_factor hash)
    (times_factor (mixed_down (times_factor (from_le_bytes w32 word)) 24))

-- MurmurHash2 with the bytes that are left where there are no four more, low byte first
abbrev pub murmur_left : ℕ → List ℕ → ℕ
murmur_left hash [] = hash
murmur_left hash (byte ∷ rest) = times_factor (bit_xor hash (from_le_bytes w32 (byte ∷ rest)))

-- what follows the last byte
abbrev pub murmur_end : ℕ → ℕ
murmur_end hash = mixed_down (times_factor (mixed_down hash 13)) 15

-- MurmurHash2, with 0xdeadbeef times the length as its seed
abbrev pub murmur : List ℕ → ℕ
murmur bytes =
    let words = length bytes / 4 in
    let hash = fold murmur_step (murmur_start (length bytes)) (first_chunks 4 words bytes) in
    murmur_end (murmur_left hash (drop (words * 4) bytes))
