use Rattle.std.proofs.Common.{◌≡◌, ◌++◌, drop, map, string_bytes}
use Rattle.tko_explain.specs.Reports.{addresses_text}
use Rattle.tko_explain.proofs.reporting.append_servers.Given as goal

-- the lines so far and those of the addresses that are left
abbrev pub invariant-loop-number : goal.invariant-loop-number
invariant-loop-number l =
    l.out.items ++ addresses_text l.number (map string_bytes (drop l.number l.addresses))
    ≡ l.initial.out.items ++ addresses_text 0 (map string_bytes l.addresses)
