use Rattle.tko_event_threads.proofs.AccountLemmas.{settled_on}
use Rattle.tko_event_threads.proofs.accounted.Accounted.settle.Goals as goal

pub invariant_of-self : goal.invariant_of-self
invariant_of-self g c =
    let took = c.take_lacking-counts.ensures in
    settled_on c.args.sent took.counts took.none took.probes c.add-full.ensures.given c.self.invariant
