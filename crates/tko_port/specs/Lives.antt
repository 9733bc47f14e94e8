-- A session and its port: what was read is what the session was fed, and what was written is what
-- it sent.
use Rattle.std.specs.Prelude.{◌≡◌, ℕ, List, [], ◌++◌, Option, IfNone, IfSome}
use Rattle.tko_port.specs.declared.guest.Guest.{Guest}
use Rattle.tko_port.specs.declared.guest.Presence.{Presence}
use Rattle.tko_port.specs.declared.guest.Presence.TheVariants.{Here, Leaving}
use Rattle.tko_port.specs.declared.settling.End.{End}
use Rattle.tko_port.specs.declared.settling.End.TheVariants.{Finished, LineTooLong, Memory, ReadFailed, WriteFailed}
use Rattle.tko_port.specs.declared.settling.Settled.{Settled}
use Rattle.tko_port.specs.declared.settling.Settled.TheVariants.{Asks, AsksMore, Ends, Rests, Spent}
use Rattle.tko_port.specs.Ports.{PortState}
use Rattle.tko_port.specs.Talks.{Readiness}

-- all that was read from its port came to a session, and all that was written went from it
abbrev pub ReadyAt : {P T : Type 0} → Readiness P T → P → PortState → T → Type 0
ReadyAt ready parts port talk = ready parts port.read port.written talk

-- the same of one that awaits no server: none of its requests is under way
pub record IsReadyIdle {P T : Type 0} (is_ready : Readiness P T) (parts : P) (port : PortState)
    (talk : T) (awaited : List ℕ) : Type 0 where
  pub ready : ReadyAt is_ready parts port talk
  pub here : awaited ≡ []

-- ready, but that what was read last may not have come to it
pub record IsReadyBefore {P T : Type 0} (ready : Readiness P T) (parts : P) (port : PortState)
    (talk : T) : Type 0 where
  pub came : List ℕ
  pub lost : List ℕ
  pub all : port.read ≡ came ++ lost
  pub is : ready parts came port.written talk

-- a session that ended so: where memory ran out, what was read last may not have come to it
abbrev pub ReadyEnd : {P T : Type 0} → Readiness P T → End → P → PortState → T → Type 0
ReadyEnd ready Finished parts port talk = ReadyAt ready parts port talk
ReadyEnd ready LineTooLong parts port talk = ReadyAt ready parts port talk
ReadyEnd ready Memory parts port talk = IsReadyBefore ready parts port talk
ReadyEnd ready ReadFailed parts port talk = ReadyAt ready parts port talk
ReadyEnd ready WriteFailed parts port talk = ReadyAt ready parts port talk

-- a session after it was served, which came to this
abbrev pub ReadyAs : {P T : Type 0} → Readiness P T → Settled → P → PortState → T → Type 0
ReadyAs ready (Asks server) parts port talk = ReadyAt ready parts port talk
ReadyAs ready (AsksMore server) parts port talk = ReadyAt ready parts port talk
ReadyAs ready Rests parts port talk = ReadyAt ready parts port talk
ReadyAs ready Spent parts port talk = ReadyAt ready parts port talk
ReadyAs ready (Ends why) parts port talk = ReadyEnd ready why parts port talk

-- how serving a client once leaves its session and the parts: the session is ready, as what that
-- came to says, or for more if that is not all; and so is each other session as before
pub record LeavesReady {P T : Type 0} (is_ready : Readiness P T) (stay : P → P → Type 0)
    (settled : Option Settled) (old new : P) (port : PortState) (talk : T) : Type 0 where
  pub ready : IfSome settled (λ it. ReadyAs is_ready it new port talk)
  pub on : IfNone settled (ReadyAt is_ready new port talk)
  pub stays : stay old new

-- a client's session: as long as it is served, all that was read came to it; and always all that
-- was written went from it
abbrev pub ReadyBy : {P T : Type 0} → Readiness P T → Presence → P → PortState → T → Type 0
ReadyBy ready Here parts port talk = ReadyAt ready parts port talk
ReadyBy ready (Leaving why) parts port talk = IsReadyBefore ready parts port talk

abbrev pub IsGuestReady : {L T P : Type 0} → Readiness P T → (L → PortState) → P → Guest L T
    → Type 0
IsGuestReady ready port parts guest =
    ReadyBy ready guest.presence parts (port guest.port) guest.talk
