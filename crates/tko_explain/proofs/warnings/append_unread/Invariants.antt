use Rattle.std.proofs.Common.{◌≡◌, ◌++◌, map}
use Rattle.serde_json.specs.View.{members_view}
use Rattle.tko_explain.specs.Warnings.{ignored_text}
use Rattle.tko_explain.proofs.warnings.append_unread.Given as goal

-- the text so far and that of the members that are left
abbrev pub invariant-loop-key : goal.invariant-loop-key
invariant-loop-key l =
    (goal.iterator-loop-key).can_next l.key-iterator
    × (goal.iterator-loop-key).is_finite l.key-iterator
    × (l.out.items ++ ignored_text l.place (map (λ key. key.now) l.keys) (members_view l.key-iterator)
    ≡ l.initial.out.items ++ ignored_text l.place (map (λ key. key.now) l.keys) (members_view l.members.entries))
