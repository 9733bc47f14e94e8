use Rattle.std.proofs.Common.{◌≡◌}
use Rattle.tko_session.proofs.observing.observe_attempts.Given as goal

abbrev pub invariant-loop-attempt : goal.invariant-loop-attempt
invariant-loop-attempt g l =
    (goal.iterator-loop-attempt g).can_next l.attempt-iterator
    × (goal.iterator-loop-attempt g).is_finite l.attempt-iterator
    × (l.trails ≡ l.fn.trails)
