use Rattle.std.proofs.Common.{◌≡◌, ℕ, List, length}
use Rattle.tko_model.specs.Records.{Gains}
use Rattle.tko_worker.specs.Workers.{IsInOrder}
use Rattle.tko_loop.specs.Walks.{AreWaits, IsDismissed}
use Rattle.tko_loop.proofs.walk.relieve.Given as goal

abbrev pub invariant-loop : goal.invariant-loop
invariant-loop g l = record {
  order : IsInOrder (g.T.Talking.awaited, g.T.Talking.talk, g.L.Port.port) g.T.Talking.ready
      l.clients;
  waits : AreWaits (g.T.Talking.awaited, g.T.Talking.talk, g.L.Port.port)
      l.clients.mux.roster.slots l.waits.items;
  left : (gone : List ℕ)
      × Gains (IsDismissed (g.T.Talking.awaited, g.T.Talking.talk, g.L.Port.port) l.bound)
      l.initial.clients.mux.roster.slots gone l.clients.mux.roster.slots
      × (length gone ≡ l.counter);
}
