use Rattle.std.proofs.Common.{◌≡◌, ◌++◌, drop, flat_map}
use Rattle.tko_status.specs.Escaping.{entity_of}
use Rattle.tko_status.proofs.escaping.add_escaped.Given as goal

abbrev pub invariant-loop-byte : goal.invariant-loop-byte
invariant-loop-byte l =
    l.out.items ++ flat_map entity_of (drop l.byte-index l.byte-items)
    ≡ l.initial.out.items ++ flat_map entity_of l.byte-items
