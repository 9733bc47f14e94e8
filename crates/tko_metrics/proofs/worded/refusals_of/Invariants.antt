use Rattle.std.proofs.Common.{◌≡◌, map, take}
use Rattle.tko_metrics.specs.Traffic.{refusal_word}
use Rattle.tko_metrics.proofs.worded.refusals_of.Given as goal

abbrev pub invariant-loop-at : goal.invariant-loop-at
invariant-loop-at l =
    map (λ it. it.word.now) l.numbers.items ≡ map refusal_word (take l.at l.refusals)
