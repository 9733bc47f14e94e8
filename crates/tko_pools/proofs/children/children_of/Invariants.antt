use Rattle.serde_json.specs.View.{view}
use Rattle.tko_pools.proofs.ChildLemmas.{GoOn}
use Rattle.tko_pools.proofs.children.children_of.Given as goal

-- the children so far, and then any that are the pools that are left, are those of all names
abbrev pub invariant-loop-name : goal.invariant-loop-name
invariant-loop-name l =
    GoOn (λ name. name.now) l.addresses (view l.pools) l.names l.name-index l.children.items
