use Rattle.std.proofs.Common.{◌≡◌}
use Rattle.serde_json.specs.View.{members_view}
use Rattle.tko_pools.specs.Json.{pools_of}
use Rattle.tko_pools.specs.Reasons.{pools_reason}
use Rattle.tko_pools.proofs.flaws.check_members.Given as goal

-- what is left has the first flaw of all
abbrev pub invariant-loop-name : goal.invariant-loop-name
invariant-loop-name l =
    (goal.iterator-loop-name).can_next l.name-iterator
    × (goal.iterator-loop-name).is_finite l.name-iterator
    × (pools_reason (pools_of (members_view l.name-iterator))
    ≡ pools_reason (pools_of (members_view l.pools.entries)))
