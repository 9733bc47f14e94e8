use Rattle.std.proofs.Common.{◌++◌, ℕ, List, drop, map, string_bytes}
use Rattle.tko_explain.specs.OddAddresses.{AreAddressNotes}
use Rattle.tko_explain.proofs.odd_addresses.odd_addresses.Given as goal

-- the notes so far, and those of the addresses that are left, are those of all
abbrev pub invariant-loop-address : goal.invariant-loop-address
invariant-loop-address l =
    (rest : List ℕ) → AreAddressNotes (map string_bytes (drop l.address-index l.addresses)) rest
    → AreAddressNotes (map string_bytes l.addresses) (l.text.items ++ rest)
