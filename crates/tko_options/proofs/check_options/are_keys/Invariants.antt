use Rattle.std.proofs.Common.{◌≡◌, drop, map, string_bytes}
use Rattle.std.specs.List.{list_all}
use Rattle.tko_text.specs.Keys.{is_key}
use Rattle.tko_options.proofs.check_options.are_keys.Given as goal

-- all are keys where those that are left are
abbrev pub invariant-loop-key : goal.invariant-loop-key
invariant-loop-key l =
    list_all is_key (map string_bytes (drop l.key-index l.keys)) ≡ list_all is_key (map string_bytes l.keys)
