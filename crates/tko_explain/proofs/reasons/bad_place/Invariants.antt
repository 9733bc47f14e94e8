use Rattle.std.proofs.Common.{◌≡◌, ◌+◌, drop, not}
use Rattle.std.specs.List.{position_from}
use Rattle.serde_json.specs.View.{items_view}
use Rattle.tko_pools.specs.Addresses.{is_address}
use Rattle.tko_pools.specs.Json.{texts_of}
use Rattle.tko_explain.specs.Reasons.{bad_address_place}
use Rattle.tko_explain.proofs.reasons.bad_place.Given as goal

-- what is left has the first one of all
abbrev pub invariant-loop-index : goal.invariant-loop-index
invariant-loop-index l =
    position_from (λ text. not (is_address text)) (l.index + 1) (texts_of (items_view (drop l.index l.servers)))
    ≡ bad_address_place (texts_of (items_view l.servers))
