-- How much a worker serves.
use Rattle.std.specs.Prelude.{◌≡◌, ◌+◌, if◌then◌else◌, ℕ, zero, suc, List, Option, count_by, is_some, length}
use Rattle.tko_bytes.specs.Numbers.{capped}
use Rattle.tko_roster.specs.Rosters.{session_at}
use Rattle.tko_worker.specs.declared.event_worker.EventWorker.{EventWorker}
use Rattle.tko_worker.specs.Connections.{has_socket}
use Rattle.tko_worker.specs.Workers.{Sight}
use Rattle.tko_loop.specs.declared.load.Load.{Load}
use Rattle.tko_loop.specs.Walks.{waiting_below}

-- 1 where a client has the number
abbrev pub clients_at : {S : Type 0} → List (Option S) → ℕ → ℕ
clients_at slots number = if is_some (session_at slots number) then 1 else 0

-- how many of the numbers below one have a client
abbrev pub clients_below : {S : Type 0} → List (Option S) → ℕ → ℕ
clients_below slots zero = 0
clients_below slots (suc number) = clients_below slots number + clients_at slots number

-- so much a worker serves: the clients that have a number, the servers to which it has a socket,
-- and the bytes of replies that are held for all of its clients, which stay at 2^64 - 1
pub record IsLoadOf {L T P : Type 0} (sight : Sight L T) (worker : EventWorker L T P) (load : Load)
    : Type 0 where
  pub clients : load.clients ≡ clients_below worker.clients.mux.roster.slots
      (length worker.clients.mux.roster.slots)
  pub connections : load.connections ≡ count_by has_socket worker.peers.items
  pub waiting : load.waiting ≡ capped (waiting_below sight worker.clients.mux.roster.slots
      (length worker.clients.mux.roster.slots))
