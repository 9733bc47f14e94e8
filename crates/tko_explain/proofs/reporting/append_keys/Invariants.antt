use Rattle.std.proofs.Common.{◌≡◌, ◌++◌, drop, map, string_bytes}
use Rattle.tko_explain.specs.Reports.{routed_keys_text}
use Rattle.tko_explain.proofs.reporting.append_keys.Given as goal

-- the lines so far and those of the keys that are left
abbrev pub invariant-loop-key : goal.invariant-loop-key
invariant-loop-key l =
    l.out.items ++ routed_keys_text l.config (map string_bytes (drop l.key-index l.keys))
    ≡ l.initial.out.items ++ routed_keys_text l.config (map string_bytes l.keys)
