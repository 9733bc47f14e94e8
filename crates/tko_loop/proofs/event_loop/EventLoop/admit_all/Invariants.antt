use Rattle.std.proofs.Common.{◌≡◌}
use Rattle.tko_worker.specs.Workers.{IsInOrder}
use Rattle.tko_loop.specs.Held.{held_port}
use Rattle.tko_loop.proofs.event_loop.EventLoop.admit_all.Given as goal

abbrev pub invariant-loop : goal.invariant-loop
invariant-loop g l = record {
  order : IsInOrder (g.T.Talking.awaited, g.T.Talking.talk, held_port)
      g.T.Talking.ready l.self.worker.clients;
  buffer : l.self.buffer ≡ l.initial.self.buffer;
  turns : l.self.turns ≡ l.initial.self.turns;
  moment : l.self.moment ≡ l.initial.self.moment;
}
