use Rattle.std.proofs.Common.{◌≡◌, length}
use Rattle.tko_worker.specs.Workers.{IsInOrder}
use Rattle.tko_loop.specs.Held.{held_port}
use Rattle.tko_loop.proofs.connecting.connect_all.Given as goal

abbrev pub invariant-loop-server : goal.invariant-loop-server
invariant-loop-server g l = record {
  order : IsInOrder (g.T.Talking.awaited, g.T.Talking.talk, held_port)
      g.T.Talking.ready l.worker.clients;
  count : length l.servers.items ≡ length l.initial.servers.items;
}
