use Rattle.std.proofs.Common.{◌≡◌, ◌+◌, [], length}
use Rattle.tko_table.specs.Opening.{AreSeats, HasPassesFrom}
use Rattle.tko_table.specs.Steps.{view_of}
use Rattle.tko_table.proofs.words.Words.split_all.Given as goal

abbrev pub invariant-loop : goal.invariant-loop
invariant-loop l =
    HasPassesFrom l.self.settings l.self.settings.threads (length l.seats.items) (view_of l.seat)
    × AreSeats l.self.settings l.self.table.shared.table_id l.seats.items
    × (length l.seats.items + 1 ≡ l.counter)
    × (l.seat.table_id ≡ l.self.table.shared.table_id)
    × (l.seat.me.1 ≡ [])
