-- The limits of the protocol.
use Rattle.std.specs.Prelude.{ℕ}

-- the longest key, in bytes
abbrev pub key_limit : ℕ
key_limit = 250

-- how many bytes a line may have before its LF; a CR counts
abbrev pub line_limit : ℕ
line_limit = 65536

-- the greatest length of data
abbrev pub data_limit : ℕ
data_limit = 1048576

-- the greatest flags
abbrev pub flags_limit : ℕ
flags_limit = 4294967295

-- the greatest size, cas number or amount
abbrev pub number_limit : ℕ
number_limit = 18446744073709551615

-- the greatest expiry, and the greatest that a minus may precede
abbrev pub expiry_limit : ℕ
expiry_limit = 9223372036854775807

abbrev pub negative_expiry_limit : ℕ
negative_expiry_limit = 9223372036854775808
