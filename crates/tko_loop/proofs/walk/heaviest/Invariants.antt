use Rattle.std.proofs.Common.{◌≤◌, ◌<◌, ℕ}
use Rattle.tko_loop.specs.Walks.{IsBoundLeft, waiting_at, waiting_below}
use Rattle.tko_loop.proofs.walk.heaviest.Given as goal

abbrev pub invariant-loop-number : goal.invariant-loop-number
invariant-loop-number g l = record {
  left : IsBoundLeft l.bound (waiting_below (g.T.Talking.awaited, g.T.Talking.talk, g.L.Port.port)
      l.clients.mux.roster.slots l.number) l.left;
  most : (other : ℕ) → other < l.number
      → waiting_at (g.T.Talking.awaited, g.T.Talking.talk, g.L.Port.port)
      l.clients.mux.roster.slots other
      ≤ waiting_at (g.T.Talking.awaited, g.T.Talking.talk, g.L.Port.port)
      l.clients.mux.roster.slots l.most;
}
