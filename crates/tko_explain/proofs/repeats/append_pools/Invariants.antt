use Rattle.std.proofs.Common.{◌≡◌, ◌++◌}
use Rattle.serde_json.specs.View.{members_view}
use Rattle.tko_explain.specs.Repeats.{pools_again}
use Rattle.tko_explain.proofs.repeats.append_pools.Given as goal

-- the text so far and that of the pools that are left
abbrev pub invariant-loop-name : goal.invariant-loop-name
invariant-loop-name l =
    (goal.iterator-loop-name).can_next l.name-iterator
    × (goal.iterator-loop-name).is_finite l.name-iterator
    × (l.out.items ++ pools_again (members_view l.name-iterator)
    ≡ l.initial.out.items ++ pools_again (members_view l.pools.entries))
