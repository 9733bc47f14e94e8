use Rattle.tko_event_threads.proofs.SeatLemmas.{reached_duty}
use Rattle.tko_event_threads.proofs.seated.SeatHealthHealth.duty.Goals as goal

pub invariant_of-self : goal.invariant_of-self
invariant_of-self g c =
    reached_duty c.duty.result c.args.server c.duty.ensures.some c.duty.ensures.none c.self.invariant
