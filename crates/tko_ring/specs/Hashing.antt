-- The hash of a key, a number of 32 bits.
use Rattle.std.specs.Prelude.{ℕ, if◌then◌else◌, List, Option, Some, None, bytes_eq, codes}
use Rattle.md5.specs.Md5.{md5, word_at}
use Rattle.tko_bytes.specs.Hashes.{fnv1a_from, fnv_prime}
use Rattle.tko_ring.specs.Crc.{crc32}
use Rattle.tko_ring.specs.Fnv.{fnv1_signed, fnv1a_signed}
use Rattle.tko_ring.specs.Mixing.{murmur, one_at_a_time}
use Rattle.tko_ring.specs.declared.key_hash.KeyHash.{KeyHash}
use Rattle.tko_ring.specs.declared.key_hash.KeyHash.TheVariants as hash

-- FNV's hash of no bytes in 32 bits
abbrev pub fnv_start : ℕ
fnv_start = 2166136261

-- the low 32 bits of FNV's hash of no bytes in 64 bits, and of its prime
abbrev pub low_fnv_start : ℕ
low_fnv_start = 0x84222325

abbrev pub low_fnv_prime : ℕ
low_fnv_prime = 435

-- the hash of bytes
abbrev pub hash_of : KeyHash → List ℕ → ℕ
hash_of hash.Fnv1a bytes = fnv1a_from fnv_start bytes
hash_of hash.Md5 bytes = word_at (md5 bytes) 0
hash_of hash.Fnv1a64 bytes = fnv1a_signed low_fnv_start low_fnv_prime bytes
hash_of hash.Fnv1a32 bytes = fnv1a_signed fnv_start fnv_prime bytes
hash_of hash.Fnv1_64 bytes = fnv1_signed low_fnv_start low_fnv_prime bytes
hash_of hash.Fnv1_32 bytes = fnv1_signed fnv_start fnv_prime bytes
hash_of hash.OneAtATime bytes = one_at_a_time bytes
hash_of hash.Murmur bytes = murmur bytes
hash_of hash.Crc32a bytes = crc32 bytes

-- the word that names a hash
abbrev pub hash_word : KeyHash → List ℕ
hash_word hash.Fnv1a = codes "fnv1a"
hash_word hash.Md5 = codes "md5"
hash_word hash.Fnv1a64 = codes "fnv1a_64"
hash_word hash.Fnv1a32 = codes "fnv1a_32"
hash_word hash.Fnv1_64 = codes "fnv1_64"
hash_word hash.Fnv1_32 = codes "fnv1_32"
hash_word hash.OneAtATime = codes "one_at_a_time"
hash_word hash.Murmur = codes "murmur"
hash_word hash.Crc32a = codes "crc32a"

-- the hash that a word names
abbrev pub hash_named : List ℕ → Option KeyHash
hash_named word =
    if bytes_eq word (codes "fnv1a") then Some hash.Fnv1a
    else if bytes_eq word (codes "md5") then Some hash.Md5
    else if bytes_eq word (codes "fnv1a_64") then Some hash.Fnv1a64
    else if bytes_eq word (codes "fnv1a_32") then Some hash.Fnv1a32
    else if bytes_eq word (codes "fnv1_64") then Some hash.Fnv1_64
    else if bytes_eq word (codes "fnv1_32") then Some hash.Fnv1_32
    else if bytes_eq word (codes "one_at_a_time") then Some hash.OneAtATime
    else if bytes_eq word (codes "murmur") then Some hash.Murmur
    else if bytes_eq word (codes "crc32a") then Some hash.Crc32a
    else None
