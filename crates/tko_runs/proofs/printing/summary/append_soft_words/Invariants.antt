use Rattle.std.proofs.Common.{◌≡◌, ◌++◌, drop}
use Rattle.tko_runs.specs.Prints.{soft_words_text}
use Rattle.tko_runs.proofs.printing.summary.append_soft_words.Given as goal

-- the lines so far and those of the groups that are left
abbrev pub invariant-loop-group : goal.invariant-loop-group
invariant-loop-group l =
    l.out.items ++ soft_words_text l.version l.group (drop l.group l.slots)
    ≡ l.initial.out.items ++ soft_words_text l.version 0 l.slots
