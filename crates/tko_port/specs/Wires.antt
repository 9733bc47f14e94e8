-- A server's socket: when nothing can be done on it before its next event, and what was done on it.
use Rattle.std.specs.Prelude.{◌≡◌, ◌≢◌, ◌⊎◌, ◌<◌, ◌≤◌, ℕ, Bool, true, false, List, [], Option, Some, None, Result, Ok, Err, length, option_map, slice_get, take}
use Rattle.std.specs.Option.{option_and_then}
use Rattle.tko_pipe.specs.declared.fates.ShutCause.{ShutCause}
use Rattle.tko_pipe.specs.declared.fates.ShutCause.TheVariants as cause
use Rattle.tko_pipe.specs.declared.link.Link.{Link}
use Rattle.tko_pipe.specs.declared.link.Link.TheVariants.{Connected, Connecting}
use Rattle.tko_pipe.specs.declared.waiter.Waiter.{Waiter}
use Rattle.tko_pipe.specs.Ends.{ExpireEnds, GotEnds}
use Rattle.tko_pipe.specs.Pipes.{IsConnected, IsShut, IsWritten, PipeState, is_due_by, late_at, shutting}
use Rattle.tko_mux.specs.Lines.{IsOnLive, IsOnPipe, LineState, first_on, link_on, unwritten_on}
use Rattle.tko_mux.specs.Linking.{AreLinked}
use Rattle.tko_mux.specs.Muxes.{HasNoneLeaving, IsOnLine, MuxState, line_at}
use Rattle.tko_port.specs.declared.port.Read.{Read}
use Rattle.tko_port.specs.declared.port.Read.TheVariants.{Bytes, Ended, Fault, Nothing}
use Rattle.tko_port.specs.Ports.{PortState, ReadGives, WriteGives, now_writable}

-- how far the connection to a server is, if there is one
abbrev pub link_at : Option LineState → Option Link
link_at None = None
link_at (Some line) = link_on line.pipe

-- what is to be written to a server
abbrev pub unwritten_at : Option LineState → List ℕ
unwritten_at None = []
unwritten_at (Some line) = unwritten_on line.pipe

-- there is such a server, and nobody is left that waited on a connection to it that was shut
abbrev pub IsOpen : Option LineState → Type 0
IsOpen None = ⊥
IsOpen (Some line) = line.ended ≡ None

-- the connection to a server was made, and nobody is left that waited on one that was shut
pub record IsConnectionMade (server : ℕ) (lines : List LineState) : Type 0 where
  pub within : server < length lines
  pub link : link_at (slice_get lines server) ≡ Some Connected
  pub left : HasNoneLeaving (slice_get lines server)

-- only the lines to the servers change: the sessions stay, and the time limit of the connections;
-- and each client waits for each server as often as its session awaits it
pub record KeepsSessions {S P : Type 0} (awaited : S → List ℕ) (old new : MuxState S P) : Type 0
  where
    pub roster : new.roster ≡ old.roster
    pub limit : new.limit ≡ old.limit
    pub linked : AreLinked awaited new.roster.slots new.lines

-- a socket is held only once nobody is left of the connection before
abbrev pub IsHeld : Option PortState → Option LineState → Type 0
IsHeld None line = Unit {0}
IsHeld (Some port) line = IsOpen line

-- who waits for the next response of a server
abbrev pub first_at : Option LineState → Option Waiter
first_at None = None
first_at (Some line) = first_on line.pipe

-- when the first response of a server is late, if one is awaited and no byte comes
abbrev pub due_of : Option LineState → Option ℕ
due_of None = None
due_of (Some line) = option_and_then late_at line.pipe

abbrev pub due_at : List LineState → ℕ → Option ℕ
due_at lines server = due_of (slice_get lines server)

-- how many requests wait on a connection for their responses, or to be sent
abbrev pub in_flight_on : Option PipeState → ℕ
in_flight_on None = 0
in_flight_on (Some pipe) = length pipe.waiters

-- how many wait for a response of a server, or to be sent to it
abbrev pub in_flight_of : Option LineState → ℕ
in_flight_of None = 0
in_flight_of (Some line) = in_flight_on line.pipe

abbrev pub in_flight_at : List LineState → ℕ → ℕ
in_flight_at lines server = in_flight_of (slice_get lines server)

-- the first response of a server is late at this moment
abbrev pub is_first_late : Option LineState → ℕ → Bool
is_first_late line now = is_due_by (due_of line) now

-- there is a port, and nothing can be read from it
abbrev pub IsNotReadable : Option PortState → Type 0
IsNotReadable None = ⊥
IsNotReadable (Some port) = port.readable ≡ false

-- there is a port, and nothing can be written to it
abbrev pub IsNotWritable : Option PortState → Type 0
IsNotWritable None = ⊥
IsNotWritable (Some port) = port.writable ≡ false

-- nothing can be read from a server: no connection was made, or its port is not readable
abbrev pub CannotRead : Option LineState → Option PortState → Type 0
CannotRead line port = link_at line ≡ Some Connected → IsNotReadable port

-- a read found nothing: nothing can be read from a server, and nothing changed
pub record FindsNothing {S P : Type 0} (old : MuxState S P) (server : ℕ) (port : Option PortState)
    (new : MuxState S P) : Type 0 where
  pub kept : new ≡ old
  pub cannot : CannotRead (line_at new server) port

-- nothing can be written to a server: no connection was made, nothing waits to be written, or its
-- port is not writable
abbrev pub CannotWriteTo : Option LineState → Option PortState → Type 0
CannotWriteTo line port =
    link_at line ≡ Some Connected → unwritten_at line ≢ [] → IsNotWritable port

-- what a look at a port gave: without a port, that the connection failed; nothing, if the port is
-- not readable; or what a read gave
pub data ReadsFromPort (old : Option PortState) (buffer : List ℕ) (read : Read)
    (new : Option PortState) : Type 0 where
  without : old ≡ None → read ≡ Fault → new ≡ None → ReadsFromPort old buffer read new
  unready : (port : PortState) → old ≡ Some port → port.readable ≡ false → read ≡ Nothing
      → new ≡ old → ReadsFromPort old buffer read new
  gave : (was now : PortState) → old ≡ Some was → ReadGives was buffer read now → new ≡ Some now
      → ReadsFromPort old buffer read new

-- what that leaves: some bytes at the front of the buffer, or a port that is not readable
abbrev pub LeavesPort : Read → List ℕ → Option PortState → Type 0
LeavesPort (Bytes count) buffer port = (0 < count) × (count ≤ length buffer)
LeavesPort Nothing buffer port = IsNotReadable port
LeavesPort Ended buffer port = Unit {0}
LeavesPort Fault buffer port = Unit {0}

-- what was written of a text: nothing, since the connection failed; none of it, since there is none
-- or the port is not writable; or what a write took
pub data WritesPiece (old : Option PortState) (text : List ℕ) (wrote : Option ℕ)
    (new : Option PortState) : Type 0 where
  without : old ≡ None → wrote ≡ None → new ≡ None → WritesPiece old text wrote new
  held : (port : PortState) → old ≡ Some port → (text ≡ []) ⊎ (port.writable ≡ false)
      → wrote ≡ Some 0 → new ≡ old → WritesPiece old text wrote new
  gave : (was now : PortState) → old ≡ Some was → WriteGives was text wrote now → new ≡ Some now
      → WritesPiece old text wrote new

-- the lines to the other servers stay
abbrev pub OtherLines : ℕ → List LineState → List LineState → Type 0
OtherLines server old new =
    (other : ℕ) → other ≢ server → slice_get new other ≡ slice_get old other

-- the line to a server before and after its connection was shut for this cause
abbrev pub IsGivenUp : List LineState → ℕ → ShutCause → List LineState → Type 0
IsGivenUp old server why new =
    IsOnLine (λ was it. IsOnPipe (λ p q. IsShut p (shutting p why) q) was it) old server new

-- the connection to a server was given up for this cause, and its socket with it; the lines to the
-- other servers stay
pub record AreGivenUp (server : ℕ) (why : ShutCause) (old new : List LineState)
    (after : Option PortState) : Type 0 where
  pub shut : IsGivenUp old server why new
  pub gone : after ≡ None
  pub link : link_at (slice_get new server) ≡ None
  pub others : OtherLines server old new

-- why a connection is shut from which this was read
abbrev pub IsEndBy : Read → ShutCause → Type 0
IsEndBy (Bytes count) why = ⊥
IsEndBy Nothing why = ⊥
IsEndBy Ended why = why ≡ cause.EndOfInput
IsEndBy Fault why = why ≡ cause.Fault

-- a socket is kept exactly if its connection was not shut
abbrev pub IsKeptUnless : Result Unit ShutCause → Option PortState → Option PortState → Type 0
IsKeptUnless (Ok done) port after = after ≡ port
IsKeptUnless (Err why) port after = after ≡ None

-- these bytes came on the connection to a server, which may shut it
pub record HasCome (server now : ℕ) (bytes : List ℕ) (old : List LineState)
    (port : Option PortState) (new : List LineState) (after : Option PortState) : Type 0 where
  pub done : Result Unit ShutCause
  pub on : IsOnLine (λ was it. IsOnPipe (λ p q. GotEnds p bytes now done q) was it) old server new
  pub socket : IsKeptUnless done port after

-- the bytes that were read from a server's port came on its connection; or that ended, and was shut
pub data HasRead (server now : ℕ) (old : List LineState) (port : Option PortState)
    (new : List LineState) (after : Option PortState) : Type 0 where
  got : (buffer : List ℕ) (count : ℕ) (mid : Option PortState)
      → ReadsFromPort port buffer (Bytes count) mid
      → HasCome server now (take count buffer) old mid new after
      → HasRead server now old port new after
  over : (buffer : List ℕ) (read : Read) (mid : Option PortState) (why : ShutCause)
      → ReadsFromPort port buffer read mid → IsEndBy read why → IsGivenUp old server why new
      → after ≡ None → HasRead server now old port new after

-- the same, whatever it leaves of the port
pub record HasReadOn (server now : ℕ) (old : List LineState) (port : Option PortState)
    (new : List LineState) : Type 0 where
  pub after : Option PortState
  pub read : HasRead server now old port new after

-- the connection to a server was made, and its port is writable; or none was being made
pub data HasConnected (server : ℕ) (old : List LineState) (port : Option PortState)
    (new : List LineState) (after : Option PortState) : Type 0 where
  made : link_at (slice_get old server) ≡ Some Connecting
      → IsOnLine (λ was it. IsOnLive IsConnected was it) old server new
      → after ≡ option_map now_writable port → HasConnected server old port new after
  closed : port ≡ None → new ≡ old → after ≡ port → HasConnected server old port new after
  unbegun : link_at (slice_get old server) ≢ Some Connecting → new ≡ old → after ≡ port
      → HasConnected server old port new after

-- a connection to a server that was being made was shut for this cause; or none was being made
pub data HasFailed (server : ℕ) (why : ShutCause) (old new : List LineState) : Type 0 where
  failed : IsGivenUp old server why new → HasFailed server why old new
  unbegun : (IsOpen (slice_get old server) → link_at (slice_get old server) ≢ Some Connecting)
      → new ≡ old → HasFailed server why old new

-- the connection to a server, whose first response is late at this moment, was shut
pub record HasExpired (server now : ℕ) (old new : List LineState) : Type 0 where
  pub late : is_first_late (slice_get old server) now ≡ true
  pub cause : Option ShutCause
  pub on : IsOnLine (λ was it. IsOnPipe (λ p q. ExpireEnds p now cause q) was it) old server new

-- what was written to a server's port was written on its connection; or that failed, and was shut;
-- or no connection was made
pub data HasWritten (server : ℕ) (old : List LineState) (port : Option PortState)
    (new : List LineState) (after : Option PortState) : Type 0 where
  unmade : link_at (slice_get old server) ≢ Some Connected → new ≡ old → after ≡ port
      → HasWritten server old port new after
  wrote : (count : ℕ) → WritesPiece port (unwritten_at (slice_get old server)) (Some count) after
      → IsOnLine (λ was it. IsOnLive (λ p q. IsWritten p (take count p.unwritten) q) was it)
      old server new
      → HasWritten server old port new after
  failed : (mid : Option PortState)
      → WritesPiece port (unwritten_at (slice_get old server)) None mid
      → IsGivenUp old server cause.Fault new → after ≡ None → HasWritten server old port new after
