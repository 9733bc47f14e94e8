use Rattle.std.proofs.Common.{◌≡◌, ◌-◌, ◌++◌}
use Rattle.tko_runs.specs.Prints.{skipped_text}
use Rattle.tko_runs.specs.Repeats.{repeated}
use Rattle.tko_runs.proofs.printing.append_skipped.Given as goal

-- the lines so far and those that are left
abbrev pub invariant-loop : goal.invariant-loop
invariant-loop l =
    l.out.items ++ repeated (l.times - l.counter) (skipped_text l.turn)
    ≡ l.initial.out.items ++ repeated l.times (skipped_text l.turn)
