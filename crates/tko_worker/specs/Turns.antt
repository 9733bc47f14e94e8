-- A turn of events of a worker as a whole: its clients and its servers.
use Rattle.std.specs.Prelude.{◌≡◌, ◌≢◌, ◌<◌, ◌≤◌, nat_le, if◌then◌else◌, ℕ, Bool, false, List, [], Option, Some, None, slice_get}
use Rattle.std.specs.Bool.{OnFalse, OnTrue}
use Rattle.std.specs.Option.{option_and_then, option_map}
use Rattle.tko_pipe.specs.declared.link.Link.TheVariants.{Connected, Connecting}
use Rattle.tko_mux.specs.declared.asking.Came.{Came}
use Rattle.tko_mux.specs.Lines.{LineState}
use Rattle.tko_port.specs.declared.peer.Peer.{Peer}
use Rattle.tko_port.specs.Ports.{PortState}
use Rattle.tko_port.specs.Wires.{CannotRead, CannotWriteTo, IsNotReadable, IsOpen, due_at, due_of, first_at, is_first_late, link_at, unwritten_at}
use Rattle.tko_worker.specs.declared.resting.Outlook.{Outlook}

-- the port of the socket to a server, if there is one
abbrev pub socket_at : {L : Type 0} → (L → PortState) → List (Peer L) → ℕ → Option PortState
socket_at port peers server =
    option_and_then (λ peer. option_map port peer.socket) (slice_get peers server)

-- what came for the probe of a server and was not fetched yet
abbrev pub probed_at : {L : Type 0} → List (Peer L) → ℕ → Option Came
probed_at peers server = option_and_then (λ peer. peer.probed) (slice_get peers server)

-- nothing can be done for a server before its next event: nobody is left of a connection that was
-- shut; nothing can be read; nothing can be written; and its first response is not late
pub record ServerRests (now : ℕ) (line : Option LineState) (port : Option PortState) : Type 0 where
  pub is_open : IsOpen line
  pub read : CannotRead line port
  pub write : CannotWriteTo line port
  pub time : is_first_late line now ≡ false

-- each of so many servers rests
abbrev pub ServersRest : {L : Type 0} → (L → PortState) → ℕ → List LineState → List (Peer L) → ℕ
    → Type 0
ServersRest port now lines peers count = (server : ℕ) → server < count
    → ServerRests now (slice_get lines server) (socket_at port peers server)

-- to each of so many servers nothing can be written, unless its connection was shut
abbrev pub AreWritten : {L : Type 0} → (L → PortState) → List LineState → List (Peer L) → ℕ
    → Type 0
AreWritten port lines peers count = (server : ℕ) → server < count → IsOpen (slice_get lines server)
    → CannotWriteTo (slice_get lines server) (socket_at port peers server)

-- the other servers have their sockets as before
abbrev pub OtherPeers : {L : Type 0} → ℕ → List (Peer L) → List (Peer L) → Type 0
OtherPeers server old new =
    (other : ℕ) → other ≢ server → slice_get new other ≡ slice_get old other

-- the first moment at which a response of so many servers is due, if any is awaited
abbrev pub IsNextDue : List LineState → ℕ → Option ℕ → Type 0
IsNextDue lines count None = (server : ℕ) → server < count → due_at lines server ≡ None
IsNextDue lines count (Some moment) =
    ((server due : ℕ) → server < count → due_at lines server ≡ Some due → moment ≤ due)
    × ((server : ℕ) × (server < count) × (due_at lines server ≡ Some moment))

-- a connection to a server is to be begun: requests wait for one, and there is no socket
pub record IsWanted (line : Option LineState) (port : Option PortState) : Type 0 where
  pub link : link_at line ≡ Some Connecting
  pub is_open : IsOpen line
  pub closed : port ≡ None

-- the first of two moments, if there is one
abbrev pub earlier : Option ℕ → Option ℕ → Option ℕ
earlier None other = other
earlier (Some one) None = Some one
earlier (Some one) (Some other) = if nat_le one other then Some one else Some other

-- no connection to one of so many servers is to be begun
abbrev pub NoneWanted : {L : Type 0} → (L → PortState) → List LineState → List (Peer L) → ℕ
    → Type 0
NoneWanted port lines peers count = (server : ℕ) → server < count
    → IsWanted (slice_get lines server) (socket_at port peers server) → ⊥

-- the connection to a server was made, nobody waits on it, and nothing can be read or is to be
-- written
pub record IsLineIdle (line : Option LineState) (port : Option PortState) : Type 0 where
  pub is_open : IsOpen line
  pub link : link_at line ≡ Some Connected
  pub read : IsNotReadable port
  pub written : unwritten_at line ≡ []
  pub nobody : first_at line ≡ None

-- what lies ahead of a server at this moment
pub record IsAhead (now : ℕ) (line : Option LineState) (port : Option PortState) (it : Outlook)
    : Type 0 where
  pub rests : OnTrue it.rests (ServerRests now line port)
  pub due : it.due ≡ due_of line
  pub wants : OnFalse it.wants (IsWanted line port → ⊥)

-- and of so many servers
pub record AreAhead {L : Type 0} (port : L → PortState) (now : ℕ) (lines : List LineState)
    (peers : List (Peer L)) (count : ℕ) (it : Outlook) : Type 0 where
  pub rests : OnTrue it.rests (ServersRest port now lines peers count)
  pub due : IsNextDue lines count it.due
  pub wants : OnFalse it.wants (NoneWanted port lines peers count)

-- what is to be written to so many servers was written, and this lies ahead of them then
pub record AreFinished {L : Type 0} (port : L → PortState) (now : ℕ) (lines : List LineState)
    (peers : List (Peer L)) (count : ℕ) (it : Outlook) : Type 0 where
  pub written : AreWritten port lines peers count
  pub ahead : AreAhead port now lines peers count it

-- nothing is left for the next turn: all that came from the servers was taken, and no client is
-- served again
pub record IsNothingLeft (is_behind : Bool) (spent : List ℕ) : Type 0 where
  pub taken : is_behind ≡ false
  pub none : spent ≡ []
