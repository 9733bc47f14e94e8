use Rattle.tko_client.specs.Clients.{awaits, talk_of}
use Rattle.tko_worker.specs.Workers.{IsInOrder}
use Rattle.tko_rounds.specs.Rounds.{AreEventVisited}
use Rattle.tko_rounds.specs.Workers.{OnlyRoundChanges, is_ready, state_of}
use Rattle.tko_rounds.proofs.rounds.Rounds.visit_all.Given as goal

abbrev pub invariant-loop-server : goal.invariant-loop-server
invariant-loop-server g l = record {
  visits : AreEventVisited g.H.Health l.moment l.due (state_of l.initial.self l.initial.worker) l.server l.short
      (state_of l.self l.worker);
  only : OnlyRoundChanges g.H.Health.servers g.L.Port.port (l.initial.self, l.initial.worker)
      (l.self, l.worker);
  order : IsInOrder (awaits, talk_of, g.L.Port.port) is_ready l.worker.clients;
}
