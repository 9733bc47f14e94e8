use Rattle.std.proofs.Common.{◌≡◌}
use Rattle.tko_table.specs.Steps.{view_of}
use Rattle.tko_tracker.proofs.KnowsLemmas.{left}
use Rattle.tko_tracker.proofs.RunLemmas.{IsUnderWay}
use Rattle.tko_tracker.proofs.run.run.Given as goal

abbrev pub invariant-loop-reply : goal.invariant-loop-reply
invariant-loop-reply l =
    IsUnderWay l.words.settings l.number l.fn.op l.server (view_of l.fn.seat) l.call l.phase (view_of l.seat)
    × (l.seat.table_id ≡ l.fn.seat.table_id)
    × (l.seat.me.1 ≡ l.fn.seat.me.1)

abbrev pub decreases-loop-reply : goal.decreases-loop-reply
decreases-loop-reply l = left l.words.settings l.call.lost l.phase
