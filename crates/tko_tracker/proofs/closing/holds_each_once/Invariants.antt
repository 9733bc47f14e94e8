use Rattle.std.proofs.Common.{◌≡◌, ◌<◌, ℕ}
use Rattle.tko_tracker.specs.Closing.{count_of_number}
use Rattle.tko_tracker.proofs.closing.holds_each_once.Given as goal

abbrev pub invariant-loop-number : goal.invariant-loop-number
invariant-loop-number l = (other : ℕ) → other < l.number → count_of_number other l.passes ≡ 1
