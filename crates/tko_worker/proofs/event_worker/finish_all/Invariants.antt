use Rattle.std.proofs.Common.{◌≡◌, length}
use Rattle.tko_worker.specs.Changes.{OnlyLinesChange}
use Rattle.tko_worker.specs.Workers.{IsInOrder}
use Rattle.tko_worker.specs.Turns.{AreAhead, AreWritten}
use Rattle.tko_worker.proofs.event_worker.finish_all.Given as goal

abbrev pub invariant-loop-server : goal.invariant-loop-server
invariant-loop-server g l = record {
  order : IsInOrder (g.T.Talking.awaited, g.T.Talking.talk, g.L.Port.port)
      g.T.Talking.ready l.clients;
  clients : OnlyLinesChange l.initial.clients l.clients;
  count : length l.peers.items ≡ length l.initial.peers.items;
  written : AreWritten g.L.Port.port l.clients.mux.lines l.peers.items l.server;
  ahead : AreAhead g.L.Port.port l.now l.clients.mux.lines l.peers.items l.server l.ahead;
}
