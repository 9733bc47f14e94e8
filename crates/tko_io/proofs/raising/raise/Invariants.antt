use Rattle.std.proofs.Common.{◌≡◌}
use Rattle.tko_io.proofs.raising.raise.Given as goal

abbrev pub invariant-loop : goal.invariant-loop
invariant-loop g l = l.count ≡ l.initial.count
