use Rattle.std.proofs.Common.{◌≡◌, drop}
use Rattle.std.specs.List.{fold}
use Rattle.serde_json.specs.View.{items_view}
use Rattle.tko_pools.specs.Json.{texts_of}
use Rattle.tko_pools.specs.Numbering.{with_address}
use Rattle.tko_pools.proofs.numbering.NumberedAddresses.add_all.Given as goal

-- what is left makes what all of the list makes
abbrev pub invariant-loop-value : goal.invariant-loop-value
invariant-loop-value l =
    fold with_address l.self (texts_of (items_view (drop l.value-index l.servers)))
    ≡ fold with_address l.fn.self (texts_of (items_view l.servers))
