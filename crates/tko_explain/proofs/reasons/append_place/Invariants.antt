use Rattle.std.proofs.Common.{◌≡◌}
use Rattle.serde_json.specs.View.{members_view}
use Rattle.tko_explain.specs.Reasons.{bad_address_text}
use Rattle.tko_pools.specs.Json.{pools_of}
use Rattle.tko_explain.proofs.reasons.append_place.Given as goal

-- nothing was appended, and what is left has the place of all
abbrev pub invariant-loop-name : goal.invariant-loop-name
invariant-loop-name l =
    (goal.iterator-loop-name).can_next l.name-iterator
    × (goal.iterator-loop-name).is_finite l.name-iterator
    × (l.out.items ≡ l.initial.out.items)
    × (bad_address_text (pools_of (members_view l.name-iterator))
    ≡ bad_address_text (pools_of (members_view l.pools.entries)))
