-- Connections over TCP: the servers' addresses, which servers are connected, how often calls
-- failed, and the time limits of exchanges.
use Rattle.std.specs.Prelude.{◌≡◌, ◌≤◌, ℕ, ◌+◌, Bool, true, false, List, [], ◌∷◌, get_or}
use Rattle.std.specs.Prelude.{string_bytes, sum_by, Option, Some, None}
use Rattle.std.specs.Duration.{as_nanos}
use Rattle.tko_tcp.specs.declared.tcp_server.TcpServer.{TcpServer}
use Rattle.tko_links.specs.Wires.{WireItem, Connected, Unconnected, Wrote, Failed, Checked}
use Rattle.tko_links.specs.Wires.{Limited, connected_after}

-- The servers' addresses, which servers are connected, the time limit of the last exchange on each
-- connection, how often calls failed, the time limit of the next exchange, and that of an exchange
-- that is no probe (`whole`). Limits are in nanoseconds.
pub record TcpState : Type 0 where
  pub addresses : List (List ℕ)
  pub connected : List Bool
  pub limits : List (Option ℕ)
  pub failures : ℕ
  pub limit : ℕ
  pub whole : ℕ

-- whether there is a connection to a server
abbrev pub is_open : TcpServer → Bool
is_open server = elim server.connection [ Some connection ↦ true | None ↦ false ]

-- the address of a server, as it was given
abbrev pub address_of : TcpServer → List ℕ
address_of server = string_bytes server.address

-- the time limit of the last exchange on the connection to a server
abbrev pub time_limit_of : TcpServer → Option ℕ
time_limit_of server = elim server.connection [
  | Some connection ↦ Some (as_nanos connection.time.limit)
  | None ↦ None
]

-- the least and the most failures that an item counts as: an item that no byte was written does not
-- say whether there was any to write
abbrev pub least_failures : WireItem → ℕ
least_failures (Unconnected server) = 1
least_failures (Failed server fault) = 1
least_failures _ = 0

abbrev pub most_failures : WireItem → ℕ
most_failures (Wrote server []) = 1
most_failures it = least_failures it

-- An exchange that begins, by connecting or on an open connection, gets the limit that was set for
-- the next one. That limit stays until a probe begins; after the probe it is the whole one again.
abbrev pub IsTimed : TcpState → WireItem → TcpState → Type 0
IsTimed old (Connected server) new =
    (new.limit ≡ old.limit) × (get_or new.limits server None ≡ Some old.limit)
IsTimed old (Checked server usable) new =
    (new.limit ≡ old.limit) × (get_or new.limits server None ≡ Some old.limit)
IsTimed old (Limited server true) new = new.limits ≡ old.limits
IsTimed old (Limited server false) new = (new.limit ≡ new.whole) × (new.limits ≡ old.limits)
IsTimed old _ new = new.limit ≡ old.limit

-- one call: it changes only the connection of the server that it connects or shuts, and its failure
-- is counted; the addresses stay as they were
pub record IsTcpStep (old : TcpState) (it : WireItem) (new : TcpState) : Type 0 where
  pub addresses : new.addresses ≡ old.addresses
  pub whole : new.whole ≡ old.whole
  pub timed : IsTimed old it new
  pub connected : new.connected ≡ connected_after old.connected it
  pub least : old.failures + least_failures it ≤ new.failures
  pub most : new.failures ≤ old.failures + most_failures it

-- which servers are connected after these items
abbrev pub connected_after_all : List Bool → List WireItem → List Bool
connected_after_all connected [] = connected
connected_after_all connected (it ∷ items) =
    connected_after_all (connected_after connected it) items

-- after these items a server is connected if it was connected last and not shut since, each failure
-- is counted, and the addresses and the whole limit are as before
pub record IsTcpRecord (old : TcpState) (items : List WireItem) (new : TcpState) : Type 0 where
  pub addresses : new.addresses ≡ old.addresses
  pub whole : new.whole ≡ old.whole
  pub connected : new.connected ≡ connected_after_all old.connected items
  pub least : old.failures + sum_by least_failures items ≤ new.failures
  pub most : new.failures ≤ old.failures + sum_by most_failures items
