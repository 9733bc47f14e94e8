-- The CRC-32 of zlib: the remainder of the bits, lowest first, by the polynomial 0xedb88320.
use Rattle.std.specs.Prelude.{ℕ, ◌/◌, ◌%◌, ◌-◌, ◌^◌, ◌==◌, bit_xor, if◌then◌else◌, List}
use Rattle.std.specs.List.{fold}

-- one step of the division
abbrev pub crc_bit : ℕ → ℕ
crc_bit crc = if crc % 2 == 1 then bit_xor (crc / 2) 0xedb88320 else crc / 2

-- the remainder with one more byte
abbrev pub crc_step : ℕ → ℕ → ℕ
crc_step crc byte =
    crc_bit (crc_bit (crc_bit (crc_bit (crc_bit (crc_bit (crc_bit (crc_bit (bit_xor crc byte))))))))

-- the checksum of bytes
abbrev pub crc32 : List ℕ → ℕ
crc32 bytes = bit_xor (fold crc_step (2 ^ 32 - 1) bytes) (2 ^ 32 - 1)
