use Rattle.tko_event_threads.proofs.SeatLemmas.{reached_on}
use Rattle.tko_event_threads.proofs.seated.SeatHealthHealth.hard_failure.Goals as goal

pub invariant_of-self : goal.invariant_of-self
invariant_of-self g c = reached_on c.self.invariant c.hard_failure.ensures.step
