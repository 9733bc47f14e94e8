use Rattle.std.proofs.Common.{◌≡◌, ◌<◌, ◌≤◌, ℕ, length, slice_get}
use Rattle.tko_roster.specs.Rosters.{session_at}
use Rattle.tko_worker.specs.Workers.{IsInOrder}
use Rattle.tko_loop.specs.Walks.{IsSeenAt}
use Rattle.tko_loop.proofs.walk.look_at_all.Given as goal

abbrev pub invariant-loop-number : goal.invariant-loop-number
invariant-loop-number g l = record {
  order : IsInOrder (g.T.Talking.awaited, g.T.Talking.talk, g.L.Port.port) g.T.Talking.ready
      l.clients;
  count : length l.times.items ≡ length l.initial.times.items;
  seen : (number : ℕ) → number < l.number
      → IsSeenAt (g.T.Talking.awaited, g.T.Talking.talk, g.L.Port.port) l.now l.idle number
      l.initial.times.items l.initial.clients.mux.roster.slots l.times.items
      l.clients.mux.roster.slots;
  times_left : (number : ℕ) → l.number ≤ number
      → slice_get l.times.items number ≡ slice_get l.initial.times.items number;
  clients_left : (number : ℕ) → l.number ≤ number
      → session_at l.clients.mux.roster.slots number
      ≡ session_at l.initial.clients.mux.roster.slots number;
}
