use Rattle.std.proofs.Common.{◌≡◌, ◌+◌, ◌<◌, ◌^◌, ◌++◌, length, drop}
use Rattle.tko_runs.specs.Prints.{lines_text}
use Rattle.tko_runs.specs.Runs.{one_by_one}
use Rattle.tko_runs.proofs.printing.append_lines.Given as goal

-- what is told so far, and what is left to tell; and there are numbers for all events that are left
abbrev pub invariant-loop-skip : goal.invariant-loop-skip
invariant-loop-skip l =
    (l.out.items ++ lines_text l.version l.number l.place l.rest (one_by_one (drop l.skip-index l.skips))
    ≡ l.initial.out.items ++ lines_text l.version 1 0 l.events (one_by_one l.skips))
    × (l.number + length l.rest < 2 ^ 64)
