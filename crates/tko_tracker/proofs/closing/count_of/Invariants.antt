use Rattle.std.proofs.Common.{◌≡◌, ◌≤◌, ◌+◌, drop}
use Rattle.tko_tracker.specs.Closing.{count_of_number}
use Rattle.tko_tracker.proofs.closing.count_of.Given as goal

abbrev pub invariant-loop-pass : goal.invariant-loop-pass
invariant-loop-pass l =
    (l.count + count_of_number l.number (drop l.pass-index l.passes) ≡ count_of_number l.number l.passes)
    × (l.count ≤ l.pass-index)
