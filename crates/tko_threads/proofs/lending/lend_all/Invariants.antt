use Rattle.std.proofs.Common.{◌≡◌, All, length}
use Rattle.tko_tracker.specs.Seated.{IsOf}
use Rattle.tko_threads.proofs.lending.lend_all.Given as goal

abbrev pub invariant-loop : goal.invariant-loop
invariant-loop g l =
    (length l.passes.items ≡ l.counter) × All (λ idle. IsOf g.N.Named.tracker idle) l.passes.items
