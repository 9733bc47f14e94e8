use Rattle.std.proofs.Common.{◌≡◌, length}
use Rattle.tko_metrics.proofs.tallies.Tallies.new.Given as goal

abbrev pub invariant-loop : goal.invariant-loop
invariant-loop l = length l.numbers.items ≡ l.counter
