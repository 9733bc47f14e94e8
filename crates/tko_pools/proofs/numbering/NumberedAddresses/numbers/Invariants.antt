use Rattle.std.proofs.Common.{◌≡◌, ◌++◌, drop, map}
use Rattle.serde_json.specs.View.{items_view}
use Rattle.tko_pools.specs.Json.{texts_of}
use Rattle.tko_pools.specs.Numbering.{number_in}
use Rattle.tko_pools.proofs.numbering.NumberedAddresses.numbers.Given as goal

-- the numbers so far, and then those of what is left, are all numbers
abbrev pub invariant-loop-value : goal.invariant-loop-value
invariant-loop-value l =
    l.numbers.items ++ map (number_in l.self) (texts_of (items_view (drop l.value-index l.servers)))
    ≡ map (number_in l.self) (texts_of (items_view l.servers))
