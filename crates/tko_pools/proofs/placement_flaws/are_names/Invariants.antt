use Rattle.std.proofs.Common.{◌≡◌, drop}
use Rattle.serde_json.specs.View.{items_view}
use Rattle.tko_pools.specs.Json.{texts_of}
use Rattle.tko_pools.specs.PlacementFlaws.{are_names}
use Rattle.tko_pools.proofs.placement_flaws.are_names.Given as goal

-- all are names where those that are left are
abbrev pub invariant-loop-value : goal.invariant-loop-value
invariant-loop-value l =
    are_names (texts_of (items_view (drop l.value-index l.list))) ≡ are_names (texts_of (items_view l.list))
