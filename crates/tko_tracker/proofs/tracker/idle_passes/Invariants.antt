use Rattle.std.proofs.Common.{◌≡◌, ◌+◌, length}
use Rattle.std.specs.Vec.Iter.{into_iter_items}
use Rattle.tko_tracker.specs.Seated.{ArePasses}
use Rattle.tko_tracker.proofs.PassLemmas.{AreSeatsFrom}
use Rattle.tko_tracker.proofs.tracker.idle_passes.Given as goal

abbrev pub invariant-loop-seat : goal.invariant-loop-seat
invariant-loop-seat l =
    let s = l.words.settings in
    let table = l.words.table.shared.table_id in
    (goal.iterator-loop-seat).can_next l.seat-iterator
    × (goal.iterator-loop-seat).is_finite l.seat-iterator
    × ArePasses (record { settings = s; table = table }) l.passes.items
    × AreSeatsFrom s table (length l.passes.items) (into_iter_items l.seat-iterator)
    × (l.number ≡ length l.passes.items)
    × (length l.passes.items + length (into_iter_items l.seat-iterator) ≡ s.threads)
