use Rattle.tko_worker.specs.Workers.{IsInOrder}
use Rattle.tko_loop.specs.Held.{held_port}
use Rattle.tko_loop.proofs.noting.note_all.Given as goal

abbrev pub invariant-loop-event : goal.invariant-loop-event
invariant-loop-event g l = record {
  order : IsInOrder (g.T.Talking.awaited, g.T.Talking.talk, held_port)
      g.T.Talking.ready l.worker.clients;
}
