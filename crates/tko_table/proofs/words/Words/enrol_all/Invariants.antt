use Rattle.std.proofs.Common.{◌≡◌}
use Rattle.tko_table.specs.Opening.{HasPassesFrom}
use Rattle.tko_table.specs.Steps.{view_of}
use Rattle.tko_table.proofs.words.Words.enrol_all.Given as goal

abbrev pub invariant-loop : goal.invariant-loop
invariant-loop l =
    HasPassesFrom l.self.settings l.counter 0 (view_of l.seat)
    × (l.seat.table_id ≡ l.fn.seat.table_id)
    × (l.seat.me.1 ≡ l.fn.seat.me.1)
