use Rattle.std.proofs.Common.{◌≡◌, ◌++◌, drop, map}
use Rattle.serde_json.specs.View.{items_view}
use Rattle.tko_pools.specs.Json.{texts_of}
use Rattle.tko_explain.specs.Parts.{pool_named}
use Rattle.tko_explain.proofs.parts.push_names.Given as goal

-- the names so far and those of what is left
abbrev pub invariant-loop-value : goal.invariant-loop-value
invariant-loop-value l =
    map (λ name. name.now) l.names.items ++ map pool_named (texts_of (items_view (drop l.value-index l.list)))
    ≡ map (λ name. name.now) l.initial.names.items ++ map pool_named (texts_of (items_view l.list))
