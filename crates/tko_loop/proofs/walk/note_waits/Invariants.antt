use Rattle.std.proofs.Common.{◌≡◌, length}
use Rattle.tko_loop.specs.Walks.{AreWaits}
use Rattle.tko_loop.proofs.walk.note_waits.Given as goal

abbrev pub invariant-loop-number : goal.invariant-loop-number
invariant-loop-number g l = record {
  count : length l.waits.items ≡ l.number;
  noted : AreWaits (g.T.Talking.awaited, g.T.Talking.talk, g.L.Port.port)
      l.clients.mux.roster.slots l.waits.items;
}
