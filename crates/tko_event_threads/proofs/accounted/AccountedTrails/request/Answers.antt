use Rattle.tko_reply.specs.TrailEvents.{Asked}
use Rattle.tko_event_threads.proofs.AccountLemmas.{recorded_or_not}
use Rattle.tko_event_threads.proofs.accounted.AccountedTrails.request.Goals as goal

pub invariant_of-self : goal.invariant_of-self
invariant_of-self g c =
    recorded_or_not c.request.result (Asked c.args.request.now) c.request.ensures.ok c.request.ensures.err c.self.invariant
