-- When the poll may wait.
use Rattle.std.specs.Prelude.{◌≡◌, ◌<◌, ◌≤◌, ◌+◌, ℕ, List, [], Some, length, slice_get}
use Rattle.tko_mux.specs.Muxes.{line_at}
use Rattle.tko_worker.specs.declared.event_worker.EventWorker.{EventWorker}
use Rattle.tko_port.specs.Wires.{due_at}
use Rattle.tko_worker.specs.Turns.{IsWanted, ServersRest, socket_at}
use Rattle.tko_loop.specs.declared.addresses.Addresses.{Addresses}
use Rattle.tko_loop.specs.declared.held.Held.{Held}
use Rattle.tko_loop.specs.Addresses.{IsLookedUp}
use Rattle.tko_loop.specs.Held.{held_port}
use Rattle.tko_loop.specs.Pauses.{longest, longest_look_up}

-- a connection to a server is to be begun
abbrev pub IsWantedAt : {K T P : Type 0} → EventWorker (Held K) T P → ℕ → Type 0
IsWantedAt worker server = IsWanted (line_at worker.clients.mux server)
    (socket_at held_port worker.peers.items server)

-- all rest at this moment: no client is to be served, each server rests, and no connection to one
-- of these is to be begun, unless its host is looked up
pub record AllRest {K T P : Type 0} (now : ℕ) (servers : List Addresses)
    (worker : EventWorker (Held K) T P) : Type 0 where
  pub touched : worker.clients.touched ≡ []
  pub spent : worker.clients.spent ≡ []
  pub servers_rest : ServersRest held_port now worker.clients.mux.lines worker.peers.items
      (length worker.peers.items)
  pub begun : (server : ℕ) → server < length servers → server < length worker.peers.items
      → IsWantedAt worker server → IsLookedUp (slice_get servers server)

-- the poll may wait so long after a turn that judged by the first moment, where the next one judges
-- by the second: only where all rest, and not past the moment at which a response is due; and a
-- short time where a server's host is looked up for a connection
pub record MayWait {K T P : Type 0} (judged next pause : ℕ) (servers : List Addresses)
    (worker : EventWorker (Held K) T P) : Type 0 where
  pub rests : 0 < pause → AllRest judged servers worker
  pub due : 0 < pause → (server due : ℕ) → server < length worker.peers.items
      → due_at worker.clients.mux.lines server ≡ Some due → next + pause ≤ due
  pub look_up : (server : ℕ) → server < length servers → server < length worker.peers.items
      → IsWantedAt worker server → pause ≤ longest_look_up
  pub within : pause ≤ longest
