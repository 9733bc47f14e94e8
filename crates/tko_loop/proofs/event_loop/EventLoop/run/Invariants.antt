use Rattle.tko_loop.specs.Held.{held_port}
use Rattle.tko_loop.specs.Loops.{CanTurn}
use Rattle.tko_loop.proofs.event_loop.EventLoop.run.Given as goal

abbrev pub invariant-loop : goal.invariant-loop
invariant-loop g l = record {
  next : (goal.iterator-loop g).can_next l.iterator' × (goal.iterator-loop g).is_finite l.iterator';
  can : CanTurn (g.T.Talking.awaited, g.T.Talking.talk, held_port) g.T.Talking.ready
      l.self.buffer.items l.self.worker.clients;
}
