-- The fields of a line.
use Rattle.std.specs.Prelude.{ℕ, ◌==◌, List, [], Option, Some, None}
use Rattle.std.specs.List.{slice_split}
use Rattle.tko_bytes.specs.Words.{space}

-- what is left of a line gives these fields, which single spaces separate; nothing gives none
unfoldable pub fields_in : Option (List ℕ) → List (List ℕ)
fields_in None = []
fields_in (Some line) = slice_split (λ byte. byte == space) line

-- the fields of a line
abbrev pub fields_of : List ℕ → List (List ℕ)
fields_of line = fields_in (Some line)
