use Rattle.std.proofs.Common.{◌≡◌, ◌++◌, drop, map, string_bytes}
use Rattle.serde_json.specs.View.{items_view}
use Rattle.tko_pools.specs.Json.{texts_of}
use Rattle.tko_pools.specs.Numbering.{number_in}
use Rattle.tko_explain.proofs.reporting.push_numbers.Given as goal

-- the numbers so far and those of what is left
abbrev pub invariant-loop-value : goal.invariant-loop-value
invariant-loop-value l =
    l.numbers.items
    ++ map (number_in (map string_bytes l.addresses)) (texts_of (items_view (drop l.value-index l.servers)))
    ≡ l.initial.numbers.items
    ++ map (number_in (map string_bytes l.addresses)) (texts_of (items_view l.servers))
