use Rattle.std.proofs.Common.{◌≡◌, ◌≤◌, ℕ}
use Rattle.tko_roster.specs.Rosters.{session_at}
use Rattle.tko_worker.specs.Workers.{IsInOrder}
use Rattle.tko_loop.specs.Offers.{AreOffered}
use Rattle.tko_loop.proofs.offering.offer_again.Given as goal

abbrev pub invariant-loop-number : goal.invariant-loop-number
invariant-loop-number g l = record {
  order : IsInOrder (g.T.Talking.awaited, g.T.Talking.talk, g.L.Port.port) g.T.Talking.ready
      l.clients;
  offered : AreOffered (g.T.Talking.awaited, g.T.Talking.talk, g.L.Port.port) l.number
      l.initial.clients.mux.roster.slots l.clients.mux.roster.slots;
  left : (number : ℕ) → l.number ≤ number
      → session_at l.clients.mux.roster.slots number
      ≡ session_at l.initial.clients.mux.roster.slots number;
}
