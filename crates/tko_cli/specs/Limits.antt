-- The limits that the system sets the process.
use Rattle.std.specs.Prelude.{ℕ, Bool, List, codes, nat_eq}
use Rattle.std.specs.List.{starts_with}

-- whether a line of the system's table tells that memory has no limit: its name is padded to 25
-- bytes, a space follows, and then the limit that is in force
abbrev pub is_unlimited : List ℕ → Bool
is_unlimited line = starts_with nat_eq line (codes "Max address space         unlimited ")
