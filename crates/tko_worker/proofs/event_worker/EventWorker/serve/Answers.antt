use Rattle.std.proofs.Common.{rules}
use Rattle.tko_worker.proofs.ActedLemmas.{worker_acted_on}
use Rattle.tko_worker.proofs.TakingLemmas.{all_taken}
use Rattle.tko_worker.proofs.event_worker.EventWorker.serve.Goals as goal

pub returns-clause-acts : goal.returns-clause-acts
returns-clause-acts g c = record {
  acted = worker_acted_on (g.T.Talking.awaited, g.T.Talking.talk, g.L.Port.port)
      c.args.self.now.clients c.serve_all.new.clients c.end_turn.new.self
      c.serve_all.ensures.acted c.end_turn.ensures.acted;
  order = c.end_turn.ensures.order;
}

pub returns-clause-served : goal.returns-clause-served
returns-clause-served g c = record {
  none = c.end_turn.ensures.served;
  taken = all_taken (g.T.Talking.awaited, g.T.Talking.talk, g.L.Port.port)
      (λ guest. g.T.Talking.waits_for guest.talk) c.as_slice-awake.result.now
      c.args.self.now.awake.items _ c.serve_all.result c.args.self.now.clients
      c.serve_all.new.clients c.end_turn.new.self (search rules) c.serve_all.ensures.taken
      c.end_turn.ensures.acted;
}
