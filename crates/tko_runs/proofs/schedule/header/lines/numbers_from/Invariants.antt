use Rattle.std.proofs.Common.{◌≡◌, ◌∷◌, ◌++◌, length}
use Rattle.std.specs.Option.{option_map}
use Rattle.tko_runs.specs.ScheduleHeaders.{values_of}
use Rattle.tko_runs.proofs.schedule.header.lines.numbers_from.Given as goal

-- the numbers so far and those of the words that are left
abbrev pub invariant-loop-word : goal.invariant-loop-word
invariant-loop-word l =
    option_map (λ others. l.numbers.items ++ others) (values_of l.words)
    ≡ option_map (λ others. l.first ∷ others) (values_of l.fn.words)

abbrev pub decreases-loop-word : goal.decreases-loop-word
decreases-loop-word l = length l.words
