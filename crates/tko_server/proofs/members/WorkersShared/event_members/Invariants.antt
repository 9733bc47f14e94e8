use Rattle.std.proofs.Common.{◌≡◌, ◌+◌, ◌++◌, All, length, map}
use Rattle.std.specs.Iterator.Adapters.{zip_first, zip_second}
use Rattle.std.specs.Slice.Iter.{iter_mut_rest}
use Rattle.std.specs.Vec.Iter.{into_iter_items}
use Rattle.tko_tracker.specs.Seated.{IsOf}
use Rattle.tko_server.specs.EventMembers.{AreEventReadyAt, HasEventOptions}
use Rattle.tko_server.proofs.members.WorkersShared.event_members.Given as goal

abbrev pub invariant-loop-idle : goal.invariant-loop-idle
invariant-loop-idle g l =
    let tracker = g.N.Named.tracker in
    let left = into_iter_items (zip_first l.idle-iterator) in
    (goal.iterator-loop-idle g).can_next l.idle-iterator
    × (goal.iterator-loop-idle g).is_finite l.idle-iterator
    × All (λ idle. IsOf tracker idle) left
    × AreEventReadyAt tracker l.members.items
    × (length l.members.items + length left ≡ length l.fn.passes.items)
    × (length (iter_mut_rest (zip_second l.idle-iterator)) ≡ length left)
    × All (λ member. HasEventOptions l.self.options.now member.parts) l.members.items
    × (map (λ member. member.idle) l.members.items ++ left ≡ l.fn.passes.items)
    × (length l.ways.items ≡ length l.members.items)
