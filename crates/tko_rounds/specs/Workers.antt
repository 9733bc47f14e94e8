-- A round as its worker sees it.
use Rattle.std.specs.Prelude.{◌≡◌, ℕ, List, length}
use Rattle.tko_health.specs.declared.health.Health.{Ghosts as HealthGhosts}
use Rattle.tko_mux.specs.Muxes.{LinesStay}
use Rattle.tko_port.specs.Ports.{PortState}
use Rattle.tko_port.specs.Talks.{Readiness}
use Rattle.tko_reply.specs.declared.parts.Parts.{Parts}
use Rattle.tko_client.specs.Clients.{IsReadyAfter}
use Rattle.tko_client.specs.declared.client.EventClient.{EventClient}
use Rattle.tko_client.specs.declared.lent.Lent.{Lent}
use Rattle.tko_worker.specs.Changes.{KeepsClients}
use Rattle.tko_worker.specs.Turns.{probed_at, socket_at}
use Rattle.tko_worker.specs.Workers.{WorkerState}
use Rattle.tko_worker.specs.declared.event_worker.EventWorker.{EventWorker}
use Rattle.tko_rounds.specs.Parts.{OnlyProbingChanges}
use Rattle.tko_rounds.specs.Probes.{ProbesState}
use Rattle.tko_rounds.specs.Rounds.{RoundState}

-- a client can go on over these parts, once these bytes came to it and these went from it
abbrev pub is_ready : {R H T C : Type 0} {health : HealthGhosts H}
    → Readiness (Lent R H T C health) EventClient
is_ready lent came went client = IsReadyAfter lent.parts.config came went client

module _ {L S R H T C : Type 0} {health : HealthGhosts H} where
  -- the parts that the clients of a worker share
  abbrev pub parts_in : WorkerState L S (Lent R H T C health) → Parts H (List ℕ) T C
  parts_in worker = worker.mux.roster.parts.parts.parts

  -- what a round works on, where this is known of the probes
  abbrev pub state_of : ProbesState → EventWorker L S (Lent R H T C health)
      → RoundState H (List ℕ) C
  state_of probes worker = record {
    limit = worker.clients.mux.limit;
    backend = (parts_in worker.clients).backend;
    lines = worker.clients.mux.lines;
    came = probed_at worker.peers.items;
    probes = probes;
  }

-- there are as many servers as before, each with its socket
pub record KeepsServers {L S P : Type 0} (port : L → PortState)
    (old new : ProbesState × EventWorker L S P) : Type 0 where
  pub out : length new.0.out ≡ length old.0.out
  pub lines : length new.1.clients.mux.lines ≡ length old.1.clients.mux.lines
  pub sockets : (server : ℕ)
      → socket_at port new.1.peers.items server ≡ socket_at port old.1.peers.items server
  pub count : length new.1.peers.items ≡ length old.1.peers.items

-- only the parts that the clients share change: the clients stay, the lines to the servers, and the
-- time limit of the connections
pub record OnlyPartsChange {L T P : Type 0} (old new : WorkerState L T P) : Type 0 where
  pub lines : LinesStay old.mux new.mux
  pub clients : KeepsClients old new

-- what a round leaves: of the parts that the clients share only the health and the probers change;
-- the clients stay, and there are as many servers as before, each with its socket
pub record OnlyRoundChanges {L S R H T C : Type 0} {health : HealthGhosts H} (count : H → ℕ)
    (port : L → PortState) (old new : ProbesState × EventWorker L S (Lent R H T C health)) : Type 0
  where
    pub parts : OnlyProbingChanges count (parts_in old.1.clients) (parts_in new.1.clients)
    pub clients : KeepsClients old.1.clients new.1.clients
    pub servers : KeepsServers port old new
