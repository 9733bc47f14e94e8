use Rattle.std.proofs.Common.{◌≡◌, ◌≤◌, ◌-◌, ◌^◌, min}
use Rattle.tko_loop.specs.Loads.{clients_below}
use Rattle.tko_loop.specs.Walks.{waiting_below}
use Rattle.tko_loop.proofs.load.Load.of.Given as goal

abbrev pub invariant-loop-number : goal.invariant-loop-number
invariant-loop-number g l = record {
  clients : l.clients ≡ clients_below l.worker.clients.mux.roster.slots l.number;
  within : l.clients ≤ l.number;
  waiting : l.waiting ≡ min (waiting_below (g.T.Talking.awaited, g.T.Talking.talk, g.L.Port.port)
      l.worker.clients.mux.roster.slots l.number) (2 ^ 64 - 1);
}
