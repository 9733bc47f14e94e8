-- The servers of a worker: what came from them, and when nothing can be done for them.
use Rattle.std.specs.Prelude.{◌≡◌, ◌⊎◌, ℕ, Bool, false, List, [], Option, Some, None, Result, Err, slice_get}
use Rattle.std.specs.Bool.{OnFalse, OnTrue}
use Rattle.std.specs.Option.{option_and_then}
use Rattle.tko_text.specs.declared.request.Request.{Request}
use Rattle.tko_text.specs.declared.response.fault.ReadFault.TheVariants as fault
use Rattle.tko_text.specs.ResponseReads.{ReadsResponse}
use Rattle.tko_pipe.specs.declared.fates.ShutCause.{ShutCause}
use Rattle.tko_pipe.specs.declared.link.Link.TheVariants.{Connected}
use Rattle.tko_pipe.specs.declared.waiter.Waiter.{Waiter}
use Rattle.tko_pipe.specs.Pipes.{PipeState}
use Rattle.tko_roster.specs.Rosters.{RosterState}
use Rattle.tko_mux.specs.declared.client.Client.{Client}
use Rattle.tko_mux.specs.declared.mux.delivery.Delivery.{Delivery}
use Rattle.tko_mux.specs.declared.mux.delivery.Delivery.TheVariants.{Dropped, Probed, Reached}
use Rattle.tko_mux.specs.Lines.{LineState}
use Rattle.tko_mux.specs.Muxes.{IsLent, IsResponseRead, MuxState, TellEnds, WaitsFor, line_at}
use Rattle.tko_port.specs.Peers.{delivery_in}
use Rattle.tko_port.specs.declared.guest.Guest.{Guest}
use Rattle.tko_port.specs.declared.guest.SharedParts.{SharedParts}
use Rattle.tko_port.specs.declared.guest.Turned.{Turned}
use Rattle.tko_port.specs.Guests.{IsGuestCall}
use Rattle.tko_port.specs.Ports.{PortState}
use Rattle.tko_port.specs.declared.peer.Peer.{Peer}
use Rattle.tko_port.specs.Wires.{CannotRead, HasExpired, HasReadOn, IsOpen, is_first_late}
use Rattle.tko_worker.specs.Changes.{OnlyLinesChange}
use Rattle.tko_worker.specs.Counts.{MuxAndEnds}
use Rattle.tko_worker.specs.Workers.{ListEnds, Sight, WorkerState}

-- no whole response of a connection is unread, where this request is the first that waits
pub record IsUnanswered {S P : Type 0} (waits_for : WaitsFor S)
    (roster : RosterState (Client S) P) (server : ℕ) (first : Waiter) (pipe : PipeState) : Type 0
  where
    pub request : Request
    pub is_lent : IsLent waits_for roster server pipe.forms first.by request
    pub short : (pipe.unread ≡ []) ⊎ ReadsResponse request pipe.unread (Err fault.Short)

abbrev pub AwaitsMore : {S P : Type 0} → WaitsFor S → RosterState (Client S) P → ℕ
    → Option Waiter → PipeState → Type 0
AwaitsMore waits_for roster server None pipe = Unit {0}
AwaitsMore waits_for roster server (Some first) pipe =
    IsUnanswered waits_for roster server first pipe

-- the connection that requests to a server go out on
abbrev pub pipe_at : Option LineState → Option PipeState
pipe_at line = option_and_then (λ it. it.pipe) line

-- no whole response of a server is unread
abbrev pub HasNoResponse : {S P : Type 0} → WaitsFor S → MuxState S P → ℕ → Type 0
HasNoResponse waits_for mux server = (pipe : PipeState)
    → pipe_at (slice_get mux.lines server) ≡ Some pipe → pipe.link ≡ Connected
    → AwaitsMore waits_for mux.roster server (slice_get pipe.waiters 0) pipe

-- all that came from a server was read and taken: nobody is left of a connection that was shut,
-- nothing can be read, and no whole response is unread
pub record IsDrained {S P : Type 0} (waits_for : WaitsFor S) (mux : MuxState S P) (server : ℕ)
    (port : Option PortState) : Type 0 where
  pub is_open : IsOpen (line_at mux server)
  pub cannot : CannotRead (line_at mux server) port
  pub taken : HasNoResponse waits_for mux server

-- nothing can be read from a server, and nothing changed
pub record IsNothingRead {L T P : Type 0} (old : WorkerState L T P) (server : ℕ)
    (port : Option PortState) (new : WorkerState L T P) : Type 0 where
  pub kept : new ≡ old
  pub cannot : CannotRead (line_at new.mux server) port

-- nothing can be done for a server before its next event: all that came from it was read and taken,
-- and its first response is not late at this moment
pub record IsServerDone {S P : Type 0} (waits_for : WaitsFor S) (mux : MuxState S P) (server : ℕ)
    (port : Option PortState) (now : ℕ) : Type 0 where
  pub drained : IsDrained waits_for mux server port
  pub time : is_first_late (line_at mux server) now ≡ false

-- what reading once from a server came to: bytes came, or its connection was shut; or nothing can
-- be read, and nothing changed. No client changes by it
pub record IsReadOnce {L T P : Type 0} (server now : ℕ) (old : WorkerState L T P)
    (was is : Option PortState) (came : Bool) (new : WorkerState L T P) : Type 0 where
  pub read : OnTrue came (HasReadOn server now old.mux.lines was new.mux.lines)
  pub none : OnFalse came (IsNothingRead old server is new)
  pub clients : OnlyLinesChange old new

-- the connection to a server was shut if its first response was late; else nothing changed. No
-- client changes by it
pub record IsShutIfLate {L T P : Type 0} (server now : ℕ) (old : WorkerState L T P)
    (was is : Peer L) (late : Bool) (new : WorkerState L T P) : Type 0 where
  pub shut : OnTrue late (HasExpired server now old.mux.lines new.mux.lines)
  pub time : OnFalse late (is_first_late (line_at old.mux server) now ≡ false)
  pub kept : OnFalse late ((new ≡ old) × (is ≡ was))
  pub clients : OnlyLinesChange old new

-- the client that something reached, if it reached one, is to be served in this turn
abbrev pub ListsReached : {L T P : Type 0} → Sight L T → MuxAndEnds L T P
    → Option (Delivery Turned) → List ℕ → List ℕ → MuxAndEnds L T P → List ℕ → Type 0
ListsReached sight old None off numbers new now = (new ≡ old) × (now ≡ numbers)
ListsReached sight old (Some (Reached number done)) off numbers new now =
    ListEnds sight old number off numbers new now
ListsReached sight old (Some (Probed it)) off numbers new now = (new ≡ old) × (now ≡ numbers)
ListsReached sight old (Some (Dropped number)) off numbers new now = (new ≡ old) × (now ≡ numbers)

-- a response of a server was looked for; the client that it reached is to be served in this turn
pub record HasResponseTaken {L T P : Type 0} (sight : Sight L T)
    (asks_for : Guest L T → Option Request) (waits_for : WaitsFor (Guest L T))
    (old : WorkerState L T P) (server due : ℕ)
    (result : Result (Option (Delivery Turned)) ShutCause) (new : WorkerState L T P) : Type 0 where
  pub mid : MuxState (Guest L T) (SharedParts P)
  pub read : IsResponseRead (IsGuestCall sight.0 sight.1 sight.2)
      (λ guest. sight.0 guest.talk) asks_for waits_for old.mux server due result mid
  pub listed : ListsReached sight (mid, old.ends) (delivery_in result) old.spent old.touched
      (new.mux, new.ends) new.touched
  pub spent : new.spent ≡ old.spent

-- the next of those that waited on a connection that was shut was told what became of its request;
-- if it is a client, that is to be served in this turn
pub record HasLeftNext {L T P : Type 0} (sight : Sight L T) (asks_for : Guest L T → Option Request)
    (old : WorkerState L T P) (server due : ℕ) (result : Option (Delivery Turned))
    (new : WorkerState L T P) : Type 0 where
  pub mid : MuxState (Guest L T) (SharedParts P)
  pub left : TellEnds (IsGuestCall sight.0 sight.1 sight.2) (λ guest. sight.0 guest.talk) asks_for
      old.mux server due result mid
  pub listed : ListsReached sight (mid, old.ends) result old.spent old.touched
      (new.mux, new.ends) new.touched
  pub spent : new.spent ≡ old.spent
