use Rattle.std.proofs.Common.{◌≡◌, map, take}
use Rattle.tko_metrics.specs.Traffic.{command_word}
use Rattle.tko_metrics.proofs.worded.commands_of.Given as goal

abbrev pub invariant-loop-at : goal.invariant-loop-at
invariant-loop-at l =
    map (λ it. it.word.now) l.numbers.items ≡ map command_word (take l.at l.commands)
