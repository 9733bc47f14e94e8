use Rattle.tko_event_threads.proofs.AccountLemmas.{noted_on}
use Rattle.tko_event_threads.proofs.accounted.Accounted.note_short.Goals as goal

pub invariant_of-self : goal.invariant_of-self
invariant_of-self g c = noted_on c.args.ran_out c.self.invariant
