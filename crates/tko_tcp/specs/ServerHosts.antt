-- Where a server is, and what a caller that may not wait learns of its addresses.
use Rattle.std.specs.Prelude.{◌≡◌, ℕ, List, Option, Some, slice_get, string_bytes}
use Rattle.std.specs.Arc.{arc_value}
use Rattle.std.specs.Option.{option_map}
use Rattle.std.specs.Net.ToAddrs.{IsHostAndPort}
use Rattle.std.specs.declared.net.socket_addr.SocketAddr.{SocketAddr}
use Rattle.tko_tcp.specs.declared.host_state.HostState.{HostState}
use Rattle.tko_tcp.specs.declared.host_state.ConnectStep.{ConnectStep}
use Rattle.tko_tcp.specs.declared.host_state.ConnectStep.TheVariants as step
use Rattle.tko_tcp.specs.declared.names.HostEntry.{HostEntry}
use Rattle.tko_tcp.specs.declared.server_host.Known.{Known}
use Rattle.tko_tcp.specs.declared.server_host.Known.TheVariants as known
use Rattle.tko_tcp.specs.declared.server_host.ServerHost.{ServerHost}
use Rattle.tko_tcp.specs.declared.server_host.ServerHost.TheVariants as at
use Rattle.tko_tcp.specs.Hosts.{IsNext}
use Rattle.tko_tcp.specs.TcpAddresses.{IsParted}

-- the name of the host with this index
abbrev pub name_at : List HostEntry → ℕ → Option (List ℕ)
name_at hosts place = option_map (λ (it : HostEntry). string_bytes it.name) (slice_get hosts place)

-- where an address leads: to its IP address and port, or to a port of the host with its name
abbrev pub LeadsTo : List ℕ → ServerHost → Type 0
LeadsTo address at.Nowhere = Unit {0}
LeadsTo address (at.Fixed one) =
    (host : List ℕ) × (port : ℕ) × IsParted address host port × IsHostAndPort host port one
LeadsTo address (at.Named it) =
    (host : List ℕ) × IsParted address host it.port
    × (name_at (arc_value it.names.shared).hosts.items it.place ≡ Some host)

-- what a caller learns if a connect would do this next
abbrev pub known_by : ConnectStep → Known
known_by (step.Try addresses) = known.Addresses
known_by (step.Wait ended) = known.Asked ended
known_by step.GiveUp = known.Nothing

-- the caller's addresses after that, if it had these before
abbrev pub addresses_by : ConnectStep → List SocketAddr → List SocketAddr
addresses_by (step.Try addresses) old = addresses
addresses_by _ old = old

-- a caller learns what a connect does next, for some state of the host
pub record IsLearned (since : Option ℕ) (old : List SocketAddr) (result : Known)
    (new : List SocketAddr) : Type 0 where
  pub before : HostState
  pub after : HostState
  pub next : ConnectStep
  pub is_next : IsNext before since next after
  pub told : result ≡ known_by next
  pub addresses : new ≡ addresses_by next old
