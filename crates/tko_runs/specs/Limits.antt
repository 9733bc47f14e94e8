-- Limits of a schedule's text and of its numbers.
use Rattle.std.specs.Prelude.{ℕ}

-- the most bytes of a text
abbrev pub max_bytes : ℕ
max_bytes = 1048576

-- the most lines after the header
abbrev pub max_commands : ℕ
max_commands = 1000

-- the greatest number of a text
abbrev pub max_number : ℕ
max_number = 18446744073709551615

-- the greatest number that fits a setting's field of 32 bits
abbrev pub max_field : ℕ
max_field = 4294967295

-- the most steps that one line asks for; no call takes more
abbrev pub max_steps : ℕ
max_steps = 5000
