-- Numbers that stand for marks, since when a mark is there, and the ends of names in a list of the
-- system.
use Rattle.std.specs.Prelude.{ℕ, ◌==◌, Bool, true, false}
use Rattle.tko_metrics.specs.declared.marking.Marking.{Marking}
use Rattle.tko_metrics.specs.declared.marking.Marking.TheVariants.{Up, Soft, Hard}

-- the number that stands for a mark
abbrev pub mark_number : Marking → ℕ
mark_number Up = 0
mark_number Soft = 1
mark_number Hard = 2

-- whether there is a mark
abbrev pub is_mark : Marking → Bool
is_mark Up = false
is_mark Soft = true
is_mark Hard = true

-- since when a server is marked, once its worker set a mark at this moment: a mark that the worker
-- had before keeps its moment, whatever becomes of it
abbrev pub since_after : Marking → ℕ → ℕ → ℕ
since_after Up since moment = moment
since_after Soft since moment = since
since_after Hard since moment = since

-- whether a byte ends a name
abbrev pub ends_name : ℕ → Bool
ends_name byte = byte == 0
