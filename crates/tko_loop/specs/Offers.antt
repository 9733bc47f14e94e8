-- What waits for clients, offered to their sockets.
use Rattle.std.specs.Prelude.{◌≡◌, ◌<◌, ℕ, true, List, Option, Some, None}
use Rattle.tko_port.specs.declared.talking.Tally.{Tally}
use Rattle.tko_roster.specs.Rosters.{session_at}
use Rattle.tko_mux.specs.declared.client.Client.{Client}
use Rattle.tko_port.specs.declared.guest.Guest.{Guest}
use Rattle.tko_port.specs.Ports.{PortState}
use Rattle.tko_worker.specs.Workers.{Sight, tally_at}

-- how many bytes of the replies of a number's client may be written
abbrev pub outgoing_by : Option Tally → ℕ
outgoing_by None = 0
outgoing_by (Some tally) = tally.waiting

abbrev pub outgoing_at : {L T : Type 0} → Sight L T → List (Option (Client (Guest L T))) → ℕ → ℕ
outgoing_at sight slots number = outgoing_by (tally_at sight.1 slots number)

-- a client, if there is one, can be written to
abbrev pub IsWritableIf : {L T : Type 0} → (L → PortState) → Option (Client (Guest L T)) → Type 0
IsWritableIf port None = Unit {0}
IsWritableIf port (Some client) = (port client.session.port).writable ≡ true

-- of so many numbers each client for which replies waited can be written to now
abbrev pub AreOffered : {L T : Type 0} → Sight L T → ℕ
    → (old new : List (Option (Client (Guest L T)))) → Type 0
AreOffered sight count old new = (number : ℕ) → number < count
    → 0 < outgoing_at sight old number → IsWritableIf sight.2 (session_at new number)
