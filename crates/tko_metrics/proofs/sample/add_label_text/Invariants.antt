use Rattle.std.proofs.Common.{◌≡◌, ◌++◌, drop, flat_map}
use Rattle.tko_metrics.specs.Samples.{escaped_byte}
use Rattle.tko_metrics.proofs.sample.add_label_text.Given as goal

abbrev pub invariant-loop-byte : goal.invariant-loop-byte
invariant-loop-byte l =
    l.out.items ++ flat_map escaped_byte (drop l.byte-index l.byte-items)
    ≡ l.initial.out.items ++ flat_map escaped_byte l.byte-items
