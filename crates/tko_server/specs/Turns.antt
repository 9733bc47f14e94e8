-- Whose turn it is.
use Rattle.std.specs.Prelude.{nat_lt, if◌then◌else◌, ℕ, Option, Some, None}

-- the place of the worker whose turn it is among `count`, where that after the last one's turn is
-- the first one's
abbrev pub turn_of : ℕ → ℕ → Option ℕ
turn_of next count =
    if nat_lt next count then Some next else (if nat_lt 0 count then Some 0 else None)
