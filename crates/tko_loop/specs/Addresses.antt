-- The addresses of a server, in turn.
use Rattle.std.specs.Prelude.{◌≡◌, ◌==◌, ◌+◌, ◌-◌, ◌&&◌, nat_le, nat_lt, if◌then◌else◌, ℕ, Bool, true, false, List, [], ◌∷◌, Option, Some, None, Result, Ok, Err, IfOk, OnErr, length, slice_get, unwrap_or}
use Rattle.std.specs.declared.net.socket_addr.SocketAddr.{SocketAddr}
use Rattle.std.specs.Net.Socket.{socket_flowinfo, socket_ip, socket_port, socket_scope_id}
use Rattle.tko_bytes.specs.Numbers.{capped}
use Rattle.tko_bytes.specs.declared.memory.NoMemory.{NoMemory}
use Rattle.tko_tcp.specs.declared.lack.Lack.{Lack}
use Rattle.tko_tcp.specs.declared.named_host.NamedHost.{NamedHost}
use Rattle.tko_tcp.specs.declared.server_host.Known.{Known}
use Rattle.tko_tcp.specs.declared.server_host.Known.TheVariants as known
use Rattle.tko_tcp.specs.declared.server_host.ServerHost.{ServerHost}
use Rattle.tko_tcp.specs.declared.server_host.ServerHost.TheVariants as at
use Rattle.tko_tcp.specs.ExchangeTimes.{share_of}
use Rattle.tko_tcp.specs.ServerHosts.{IsLearned}
use Rattle.tko_loop.specs.declared.addresses.Addresses.{Addresses}
use Rattle.tko_loop.specs.declared.addresses.Reach.{Reach}
use Rattle.tko_loop.specs.declared.addresses.Reach.TheVariants.{At, Later, Nowhere}
use Rattle.tko_loop.specs.declared.addresses.Unmade.{Unmade}
use Rattle.tko_loop.specs.declared.addresses.Unmade.TheVariants.{Lacking, Next, Refused}

-- at this host, or at these addresses, before the first connection
pub record AreFreshAddresses (host : Option NamedHost) (all : List SocketAddr) (it : Addresses)
    : Type 0 where
  pub host_is : it.host ≡ host
  pub all_are : it.all.items ≡ all
  pub next : it.next ≡ 0
  pub tried : it.tried ≡ 0
  pub reached : it.reached ≡ None
  pub until : it.until ≡ None
  pub awaited : it.awaited ≡ None

-- the addresses of a server that is at one address or at a host, or at none
abbrev pub AreAddressesOf : ServerHost → Addresses → Type 0
AreAddressesOf at.Nowhere it = AreFreshAddresses None [] it
AreAddressesOf (at.Fixed one) it = AreFreshAddresses None (one ∷ []) it
AreAddressesOf (at.Named host) it = AreFreshAddresses (Some host) [] it

-- the place after one of so many, of which the first follows the last
abbrev pub following : ℕ → ℕ → ℕ
following place count = if nat_lt (place + 1) count then place + 1 else 0

-- a place among so many: this one, or the first where they are fewer
abbrev pub place_in : (count place : ℕ) → ℕ
place_in count place = if nat_le count place then 0 else place

-- how many had ended when a look-up was asked for, where one is awaited
abbrev pub look_up_awaited : Known → Option ℕ
look_up_awaited known.Addresses = None
look_up_awaited (known.Asked ended) = Some ended
look_up_awaited known.Nothing = None

-- the same, where there may have been no memory for what is known
abbrev pub awaited_of : Result Known NoMemory → Option ℕ
awaited_of (Ok told) = look_up_awaited told
awaited_of (Err lacking) = None

-- how many of so many addresses were tried, once a look-up is asked for where each was
abbrev pub tried_of : (count tried : ℕ) → ℕ
tried_of count tried = if nat_lt 0 tried && nat_le count tried then 0 else tried

-- what is known of a host took the place of its addresses; or there was no memory for it, and they
-- stay
pub record IsKnown (old new : Addresses) : Type 0 where
  pub told : Result Known NoMemory
  pub learned : IfOk told (λ known. IsLearned old.awaited old.all.items known new.all.items)
  pub lacking : OnErr told (new.all.items ≡ old.all.items)
  pub awaited : new.awaited ≡ awaited_of told

-- what was found, or else what was known
abbrev pub found_or : (found known : Option ℕ) → Option ℕ
found_or None known = known
found_or (Some place) known = Some place

-- where the server was reached last once all addresses are to be tried, by what another worker may
-- have found
abbrev pub reached_of : (tried : ℕ) → (found reached : Option ℕ) → Option ℕ
reached_of tried found reached = if tried == 0 then found_or found reached else reached

-- all are tried from that one on
abbrev pub first_place_of : (tried : ℕ) → (reached : Option ℕ) → (next : ℕ) → ℕ
first_place_of tried reached next = if tried == 0 then unwrap_or reached next else next

-- the addresses of a host are those that are known now
pub record IsLookedAt (old new : Addresses) : Type 0 where
  pub known : IsKnown old new
  pub tried : new.tried ≡ tried_of (length old.all.items) old.tried
  pub found : Option ℕ
  pub reached : new.reached ≡ reached_of new.tried found old.reached
  pub place : new.next ≡ place_in (length new.all.items)
      (first_place_of new.tried new.reached old.next)
  pub others : new ≡ record old {
    all = new.all;
    next = new.next;
    tried = new.tried;
    reached = new.reached;
    awaited = new.awaited;
  }

-- the same, where the server may be at no host that is looked up
abbrev pub IsRenewedAt : Option NamedHost → Addresses → Addresses → Type 0
IsRenewedAt None old new = new ≡ old
IsRenewedAt (Some host) old new = IsLookedAt old new

abbrev pub IsRenewed : Addresses → Addresses → Type 0
IsRenewed old new = IsRenewedAt old.host old new

-- a connection to a listed address is begun there: at the port of the server, where the address is
-- that of a host
pub record IsAtPort (port : ℕ) (listed address : SocketAddr) : Type 0 where
  pub port_of : socket_port address ≡ port
  pub ip : socket_ip address ≡ socket_ip listed
  pub flow : socket_flowinfo address ≡ socket_flowinfo listed
  pub scope : socket_scope_id address ≡ socket_scope_id listed

abbrev pub IsListedAs : Option NamedHost → SocketAddr → SocketAddr → Type 0
IsListedAs None listed address = address ≡ listed
IsListedAs (Some host) listed address = IsAtPort host.port listed address

-- what was lacking counts no more once all addresses are to be tried
abbrev pub lacked_of : (tried : ℕ) → (lacked : Option Lack) → Option Lack
lacked_of tried lacked = if tried == 0 then None else lacked

-- the address at a place is taken, and the next one is that after it; with the first one that is
-- tried, nothing of those before counts any more
abbrev pub taking : Addresses → Addresses
taking it = record it {
  last = it.next;
  next = following it.next (length it.all.items);
  refused = it.refused && nat_lt 0 it.tried;
  lacked = lacked_of it.tried it.lacked;
  tried = capped (it.tried + 1);
}

-- a connection was made at the address that was tried last, at which the next one is begun too
abbrev pub reaching : Addresses → Addresses
reaching it = record it { next = it.last; tried = 0; reached = Some it.last }

-- until when a connection is tried at the address that was tried last, if others are left and
-- somebody waits for one until some moment: each has an equal part of the time until then
abbrev pub until_of : (due : Option ℕ) → (now : ℕ) → Addresses → Option ℕ
until_of None now it = None
until_of (Some due) now it =
    if length it.all.items - it.tried == 0 then None
    else Some (now + share_of (due - now) (capped (length it.all.items - it.tried + 1)))

-- no connection was made there in that time
abbrev pub passing : Addresses → Addresses
passing it = record it { refused = true; until = None }

-- a place that is known, and this one
abbrev pub is_last_reached : Option ℕ → ℕ → Bool
is_last_reached None place = false
is_last_reached (Some known) place = known == place

-- no connection could be made at the address that was tried last: it failed; or the proxy itself
-- lacked what that takes, which counts where the address was reached last
abbrev pub noting_failure : Option Lack → Addresses → Addresses
noting_failure (Some lack) it =
    record it { lacked = if is_last_reached it.reached it.last then Some lack else it.lacked }
noting_failure None it = record it { refused = true }

-- what follows once none is left, where nothing was lacking at the address that was reached last:
-- the server failed if one of its addresses did
abbrev pub unmade_by : (lack : Option Lack) → (refused : Bool) → Unmade
unmade_by (Some lack) false = Lacking lack
unmade_by (Some lack) true = Refused
unmade_by None refused = Refused

-- the server failed only if one of its addresses did, and the one that was reached last could be
-- tried
abbrev pub unmade_of_lacked : (lacked lack : Option Lack) → (refused : Bool) → Unmade
unmade_of_lacked (Some lacked) lack refused = Lacking lacked
unmade_of_lacked None lack refused = unmade_by lack refused

abbrev pub unmade_of : (lack : Option Lack) → Addresses → Unmade
unmade_of lack it = unmade_of_lacked it.lacked lack it.refused

-- the next one is tried, if one is left; else those that wait are told
abbrev pub IsUnmade : (left : Bool) → (lack : Option Lack) → Addresses → Unmade → Addresses → Type 0
IsUnmade true lack old result new = (result ≡ Next) × (new ≡ noting_failure lack old)
IsUnmade false lack old result new =
    (result ≡ unmade_of lack (noting_failure lack old))
    × (new ≡ record (noting_failure lack old) { tried = 0 })

-- what the proxy itself lacked, if that is why no connection was made
abbrev pub lack_in : Unmade → Option Lack
lack_in Next = None
lack_in Refused = None
lack_in (Lacking lack) = Some lack

-- the next address was taken, if there is one
abbrev pub IsTakenOf : Option SocketAddr → Addresses → Option SocketAddr → Addresses → Type 0
IsTakenOf None old result new = (result ≡ None) × (new ≡ old)
IsTakenOf (Some listed) old result new =
    (address : SocketAddr) × (result ≡ Some address) × IsListedAs old.host listed address
    × (new ≡ taking old)

abbrev pub IsAddressTaken : Addresses → Option SocketAddr → Addresses → Type 0
IsAddressTaken old result new = IsTakenOf (slice_get old.all.items old.next) old result new

-- where a connection is begun by what was taken
abbrev pub reach_of : Option SocketAddr → Reach
reach_of (Some address) = At address
reach_of None = Nowhere

-- nowhere yet while a look-up is awaited, and else at the next address, if there is one
abbrev pub IsBegunIf : Option ℕ → Addresses → Reach → Addresses → Type 0
IsBegunIf (Some ended) mid result new = (result ≡ Later) × (new ≡ mid)
IsBegunIf None mid result new =
    (taken : Option SocketAddr) × IsAddressTaken mid taken new × (result ≡ reach_of taken)

-- where a connection is begun, by what is known at that moment
pub record IsConnectBegun (old : Addresses) (result : Reach) (new : Addresses) : Type 0 where
  pub mid : Addresses
  pub renewed : IsRenewed old mid
  pub begun : IsBegunIf mid.awaited mid result new

-- a look-up of the server's host is awaited
abbrev pub IsLookedUp : Option Addresses → Type 0
IsLookedUp None = ⊥
IsLookedUp (Some it) = (ended : ℕ) × (it.awaited ≡ Some ended)
