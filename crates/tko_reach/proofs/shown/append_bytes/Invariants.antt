use Rattle.std.proofs.Common.{◌≡◌, ◌++◌, flat_map, drop}
use Rattle.tko_reach.specs.Printing.{shown_byte}
use Rattle.tko_reach.proofs.shown.append_bytes.Given as goal

-- the bytes so far and those that are left
abbrev pub invariant-loop-byte : goal.invariant-loop-byte
invariant-loop-byte l =
    l.out.items ++ flat_map shown_byte (drop l.byte-index l.bytes)
    ≡ l.initial.out.items ++ flat_map shown_byte l.bytes
