use Rattle.tko_event_threads.proofs.AccountLemmas.{ended_on}
use Rattle.tko_event_threads.proofs.accounted.Accounted.count_ends.Goals as goal

pub invariant_of-self : goal.invariant_of-self
invariant_of-self g c = ended_on c.args.ends.now c.report_of.ensures c.add.ensures c.self.invariant
