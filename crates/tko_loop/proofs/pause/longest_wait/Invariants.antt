use Rattle.std.proofs.Common.{◌≤◌, ◌<◌, ℕ, length, slice_get}
use Rattle.tko_loop.specs.Addresses.{IsLookedUp}
use Rattle.tko_loop.specs.Pauses.{longest, longest_look_up}
use Rattle.tko_loop.specs.Waits.{IsWantedAt}
use Rattle.tko_loop.proofs.pause.longest_wait.Given as goal

abbrev pub invariant-loop-server : goal.invariant-loop-server
invariant-loop-server g l = record {
  begun : (server : ℕ) → server < l.server → server < length l.worker.peers.items
      → IsWantedAt l.worker server → IsLookedUp (slice_get l.servers.items server);
  look_up : (server : ℕ) → server < l.server → server < length l.worker.peers.items
      → IsWantedAt l.worker server → l.most ≤ longest_look_up;
  within : l.most ≤ longest;
}
