use Rattle.std.proofs.Common.{◌≡◌, All}
use Rattle.std.specs.Vec.Iter.{into_iter_items}
use Rattle.tko_table.specs.Steps.{view_of}
use Rattle.tko_tracker.specs.Seated.{IsOf, tracker_of}
use Rattle.tko_tracker.proofs.ClosingLemmas.{IsGathered}
use Rattle.tko_tracker.proofs.closing.joined.Given as goal

abbrev pub invariant-loop-pass : goal.invariant-loop-pass
invariant-loop-pass l =
    (goal.iterator-loop-pass).can_next l.pass-iterator
    × (goal.iterator-loop-pass).is_finite l.pass-iterator
    × IsGathered l.fn.passes.items (view_of l.seat) (into_iter_items l.pass-iterator)
    × (l.seat.table_id ≡ l.words.table.shared.table_id)
    × All (IsOf (tracker_of l.words)) (into_iter_items l.pass-iterator)
