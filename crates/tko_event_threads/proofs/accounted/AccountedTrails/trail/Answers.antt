use Rattle.tko_reply.specs.TrailEvents.{Tried}
use Rattle.tko_event_threads.proofs.AccountLemmas.{recorded_or_not}
use Rattle.tko_event_threads.proofs.accounted.AccountedTrails.trail.Goals as goal

pub invariant_of-self : goal.invariant_of-self
invariant_of-self g c =
    recorded_or_not c.trail.result (Tried c.args.trail) c.trail.ensures.ok c.trail.ensures.err c.self.invariant
