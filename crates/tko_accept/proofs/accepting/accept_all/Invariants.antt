use Rattle.std.proofs.Common.{◌≡◌, false, true, ◌+◌, ◌<◌}
use Rattle.tko_accept.proofs.accepting.accept_all.Given as goal

abbrev pub invariant-loop : goal.invariant-loop
invariant-loop g l =
    (goal.iterator-loop g).can_next l.iterator' × (goal.iterator-loop g).is_finite l.iterator'
    × (l.listening.is_broken ≡ false)
    × (l.entrance.has_worker ≡ true)
    × (l.fn.connections ≡ 0 → l.left ≡ 0)
    × (0 < l.fn.connections → (0 < l.left) × (l.left + l.listening.accepted ≡ l.fn.connections))
