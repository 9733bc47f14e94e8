-- What event-driven workers have to do with servers, as it is kept.
use Rattle.std.specs.Prelude.{ℕ, ◌+◌, ◌<◌, Option, Some, None, IfSome}
use Rattle.tko_bytes.specs.Numbers.{capped}

-- the number that stands for when the next probe is due, in milliseconds: 0 for none
abbrev pub probe_number : Option ℕ → ℕ
probe_number None = 0
probe_number (Some after) = capped (after + 1)

-- the number that stands for it stands for nothing else: all but the last of 64 bits have one
abbrev pub HasOwnNumber : Option ℕ → Type 0
HasOwnNumber next = IfSome next (λ after. after < 18446744073709551615)
