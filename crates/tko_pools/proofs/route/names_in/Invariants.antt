use Rattle.std.proofs.Common.{◌≡◌, ◌++◌, drop, map}
use Rattle.std.specs.Prelude.{option_map}
use Rattle.serde_json.specs.View.{items_view}
use Rattle.tko_pools.specs.Json.{child_names, texts_of}
use Rattle.tko_pools.proofs.route.names_in.Given as goal

-- the names so far, and then those that are left, are all names
abbrev pub invariant-loop-value : goal.invariant-loop-value
invariant-loop-value l =
    option_map
    (λ names. map (λ name. name.now) l.names.items ++ names)
    (child_names (texts_of (items_view (drop l.value-index l.list.items))))
    ≡ child_names (texts_of (items_view l.list.items))
