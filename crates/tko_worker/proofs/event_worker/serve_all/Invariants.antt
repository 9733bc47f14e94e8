use Rattle.std.proofs.Common.{◌≡◌, ◌<◌, length}
use Rattle.std.specs.Bool.{OnTrue}
use Rattle.tko_worker.specs.Acts.{HasActed}
use Rattle.tko_worker.specs.Taking.{AreTaken}
use Rattle.tko_worker.specs.Workers.{IsInOrder}
use Rattle.tko_worker.proofs.event_worker.serve_all.Given as goal

abbrev pub invariant-loop-server : goal.invariant-loop-server
invariant-loop-server g l = record {
  order : IsInOrder (g.T.Talking.awaited, g.T.Talking.talk, g.L.Port.port)
      g.T.Talking.ready l.clients;
  count : length l.peers.items ≡ length l.initial.peers.items;
  room : 0 < length l.buffer;
  acted : HasActed (g.T.Talking.awaited, g.T.Talking.talk, g.L.Port.port) l.initial.clients
      l.clients;
  taken : OnTrue l.all (AreTaken (g.T.Talking.awaited, g.T.Talking.talk, g.L.Port.port)
      (λ guest. g.T.Talking.waits_for guest.talk) l.awake l.server l.initial.clients l.clients);
}
