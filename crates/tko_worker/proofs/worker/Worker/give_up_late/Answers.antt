use Rattle.tko_worker.proofs.ActedLemmas.{worker_acted_on}
use Rattle.tko_worker.proofs.worker.Worker.give_up_late.Goals as goal

pub returns-clause-acts : goal.returns-clause-acts
returns-clause-acts g c = record {
  acted = worker_acted_on (g.T.Talking.awaited, g.T.Talking.talk, g.L.Port.port)
      c.args.self.now c.give_up_one.new.self c.give_up_more.new.self
      c.give_up_one.ensures.acted c.give_up_more.ensures.acts.acted;
  order = c.give_up_more.ensures.acts.order;
}
