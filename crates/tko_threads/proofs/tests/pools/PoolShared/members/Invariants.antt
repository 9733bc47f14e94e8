use Rattle.std.proofs.Common.{All, length}
use Rattle.std.specs.Iterator.Adapters.{zip_first}
use Rattle.std.specs.Vec.Iter.{into_iter_items}
use Rattle.tko_threads.specs.Workers.{AreMembersReady}
use Rattle.tko_threads.proofs.tests.pools.PoolShared.members.Given as goal

abbrev pub invariant-loop-idle : goal.invariant-loop-idle
invariant-loop-idle g l =
    (goal.iterator-loop-idle g).can_next l.idle-iterator
    × (goal.iterator-loop-idle g).is_finite l.idle-iterator
    × All (λ idle. g.S.Seating.own l.self.seating idle) (into_iter_items (zip_first l.idle-iterator))
    × AreMembersReady g.S.Seating.own g.S.Seating.servers (λ links. length links.inner.sends) l.members.items
