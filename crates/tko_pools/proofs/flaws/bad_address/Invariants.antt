use Rattle.std.proofs.Common.{◌≡◌, drop}
use Rattle.serde_json.specs.View.{items_view}
use Rattle.tko_pools.specs.Json.{texts_of}
use Rattle.tko_pools.specs.Reasons.{bad_address}
use Rattle.tko_pools.proofs.flaws.bad_address.Given as goal

-- what is left has the first one of all
abbrev pub invariant-loop-value : goal.invariant-loop-value
invariant-loop-value l =
    bad_address (texts_of (items_view (drop l.value-index l.servers)))
    ≡ bad_address (texts_of (items_view l.servers))
