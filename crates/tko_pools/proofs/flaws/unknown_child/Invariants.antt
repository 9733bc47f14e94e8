use Rattle.std.proofs.Common.{◌≡◌, drop, map}
use Rattle.tko_pools.specs.Reasons.{unknown_child}
use Rattle.serde_json.specs.View.{view}
use Rattle.tko_pools.proofs.flaws.unknown_child.Given as goal

-- what is left has the first one of all
abbrev pub invariant-loop-name : goal.invariant-loop-name
invariant-loop-name l =
    unknown_child (view l.pools) (map (λ name. name.now) (drop l.name-index l.children))
    ≡ unknown_child (view l.pools) (map (λ name. name.now) l.children)
