use Rattle.std.proofs.Common.{All}
use Rattle.std.specs.Vec.Iter.{into_iter_items}
use Rattle.tko_tracker.specs.Seated.{IsOf}
use Rattle.tko_threads.proofs.lending.give_all.Given as goal

abbrev pub invariant-loop-pass : goal.invariant-loop-pass
invariant-loop-pass g l =
    (goal.iterator-loop-pass g).can_next l.pass-iterator
    × (goal.iterator-loop-pass g).is_finite l.pass-iterator
    × All (λ one. IsOf g.N.Named.tracker one.0) (into_iter_items l.pass-iterator)
