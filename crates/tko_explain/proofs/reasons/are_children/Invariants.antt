use Rattle.std.proofs.Common.{◌≡◌, drop}
use Rattle.std.specs.List.{list_all}
use Rattle.serde_json.specs.View.{items_view}
use Rattle.tko_pools.specs.Json.{texts_of}
use Rattle.tko_explain.specs.Reasons.{is_child}
use Rattle.tko_explain.proofs.reasons.are_children.Given as goal

-- all are children where those that are left are
abbrev pub invariant-loop-value : goal.invariant-loop-value
invariant-loop-value l =
    list_all is_child (texts_of (items_view (drop l.value-index l.list)))
    ≡ list_all is_child (texts_of (items_view l.list))
