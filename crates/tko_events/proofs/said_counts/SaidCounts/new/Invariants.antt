use Rattle.std.proofs.Common.{◌≡◌, length}
use Rattle.tko_events.proofs.said_counts.SaidCounts.new.Given as goal

abbrev pub invariant-loop : goal.invariant-loop
invariant-loop l = length l.each.items ≡ l.counter
