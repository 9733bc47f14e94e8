-- When a connection is given up that is being made, and what those learn that wait for one.
use Rattle.std.specs.Prelude.{◌≡◌, ℕ, Bool, false, nat_le, nat_lt, List, Option, Some, None, length}
use Rattle.tko_tcp.specs.declared.lack.Lack.{Lack}
use Rattle.tko_pipe.specs.declared.fates.ShutCause.TheVariants as cause
use Rattle.tko_mux.specs.Lines.{LineState}
use Rattle.tko_port.specs.Wires.{HasFailed}
use Rattle.tko_loop.specs.declared.addresses.Addresses.{Addresses}
use Rattle.tko_loop.specs.declared.addresses.Unmade.{Unmade}
use Rattle.tko_loop.specs.declared.addresses.Unmade.TheVariants.{Lacking, Next, Refused}
use Rattle.tko_loop.specs.declared.connecting.ServerLack.{ServerLack}
use Rattle.tko_loop.specs.Addresses.{IsUnmade, lack_in}

-- a moment, if there is one, has come
abbrev pub has_passed : Option ℕ → ℕ → Bool
has_passed None now = false
has_passed (Some until) now = nat_le until now

-- nothing while another address is left; that the server failed; or that the proxy itself lacked
-- what it takes, which is no failure of the server
abbrev pub IsToldUnmade : Unmade → ℕ → (old new : List LineState) → Type 0
IsToldUnmade Next server old new = new ≡ old
IsToldUnmade Refused server old new = HasFailed server cause.Fault old new
IsToldUnmade (Lacking lack) server old new = HasFailed server cause.Lacking old new

-- a connection to a server could not be made at one of its addresses, perhaps for this lack: those
-- that wait for it are told what follows; the result is what the proxy itself lacked, if that is
-- what they are told
pub record IsConnectGivenUp (server : ℕ) (lack : Option Lack) (old new : Addresses)
    (before after : List LineState) (result : Option Lack) : Type 0 where
  pub unmade : Unmade
  pub follows : IsUnmade (nat_lt old.tried (length old.all.items)) lack old unmade new
  pub told : IsToldUnmade unmade server before after
  pub reported : result ≡ lack_in unmade

-- what was lacking in a turn, after a connection to this server could not be made for this lack or
-- for another reason: the last of all
abbrev pub lack_noted : ℕ → Option Lack → Option ServerLack → Option ServerLack
lack_noted server None known = known
lack_noted server (Some lack) known = Some (record { server = server; lack = lack })
