-- A text several times in a row.
use Rattle.std.specs.Prelude.{ℕ, zero, suc, List, [], ◌++◌}

abbrev pub repeated : ℕ → List ℕ → List ℕ
repeated zero text = []
repeated (suc times) text = text ++ repeated times text
