use Rattle.std.proofs.Common.{◌≡◌, ◌++◌, drop, map}
use Rattle.serde_json.specs.View.{items_view}
use Rattle.tko_pools.specs.Json.{texts_of}
use Rattle.tko_explain.proofs.repeats.texts_of.Given as goal

-- the texts so far and those of what is left
abbrev pub invariant-loop-value : goal.invariant-loop-value
invariant-loop-value l =
    map (λ text. text.now) l.texts.items ++ texts_of (items_view (drop l.value-index l.list))
    ≡ texts_of (items_view l.list)
