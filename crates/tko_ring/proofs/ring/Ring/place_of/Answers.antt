use Rattle.tko_ring.proofs.OwnerLemmas.{only_owner}
use Rattle.tko_ring.proofs.RingLemmas.{Owns, owns_in}
use Rattle.tko_ring.proofs.ring.Ring.place_of.Goals as goal

owned : (c : goal.After-wrapped) → Owns c.args.self.now c.args.hash c.wrapped.result.place
owned c =
    owns_in c.args.self.now c.self.inside.points.items c.deref.result.now c.deref-2.result.now c.args.hash c.first_from.result
    c.wrapped.result c.self.view_is c.deref.ensures.value c.deref-2.ensures.value c.self.invariant.0 c.self.invariant.1
    c.first_from.ensures c.wrapped.ensures.within c.wrapped.ensures.past

pub returns-clause-value : goal.returns-clause-value
returns-clause-value c = (owned c).0

pub returns-clause-only : goal.returns-clause-only
returns-clause-only c = only_owner c.args.self.now c.args.hash c.wrapped.result.place (owned c).1
