use Rattle.std.proofs.Common.{◌≡◌, ◌++◌, drop, flat_map}
use Rattle.tko_metrics.specs.Samples.{worded_sample}
use Rattle.tko_metrics.proofs.worded.add_words.Given as goal

abbrev pub invariant-loop-it : goal.invariant-loop-it
invariant-loop-it l =
    l.out.items ++ flat_map (worded_sample l.metric l.label) (drop l.it-index l.numbers)
    ≡ l.initial.out.items ++ flat_map (worded_sample l.metric l.label) l.numbers
