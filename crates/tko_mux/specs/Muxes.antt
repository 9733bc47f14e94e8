-- The sessions of a worker's clients, and the lines to the servers that they wait on.
use Rattle.std.specs.Prelude.{◌≡◌, ◌<◌, ℕ, List, [], Option, Some, None, IsSome, Result, Ok, Err, length, slice_get, slice_set, replicate}
use Rattle.tko_text.specs.declared.request.Request.TheVariants as request
use Rattle.tko_text.specs.declared.request.Request.{Request}
use Rattle.tko_text.specs.declared.response.Response.{Response}
use Rattle.tko_pipe.specs.declared.fates.Fate.{Fate}
use Rattle.tko_pipe.specs.declared.fates.ShutCause.{ShutCause}
use Rattle.tko_pipe.specs.declared.waiter.Asker.{Asker}
use Rattle.tko_pipe.specs.declared.waiter.Asker.TheVariants as asker
use Rattle.tko_pipe.specs.declared.waiter.Waiter.{Waiter}
use Rattle.tko_pipe.specs.Ends.{TakeEnds}
use Rattle.tko_pipe.specs.Pipes.{pushing}
use Rattle.tko_roster.specs.Rosters.{AreReady, IfHas, IsActed, RosterState, nobody, session_at}
use Rattle.tko_mux.specs.declared.asking.Came.{Came}
use Rattle.tko_mux.specs.declared.asking.Came.TheVariants as came
use Rattle.tko_mux.specs.declared.asking.Given.{Given}
use Rattle.tko_mux.specs.declared.asking.Given.TheVariants.{Outcome}
use Rattle.tko_mux.specs.declared.client.Client.{Client}
use Rattle.tko_mux.specs.declared.mux.delivery.Delivery.{Delivery}
use Rattle.tko_mux.specs.declared.mux.delivery.Delivery.TheVariants.{Dropped, Probed, Reached}
use Rattle.tko_mux.specs.declared.mux.delivery.Done.{Done}
use Rattle.tko_mux.specs.Asks.{AskingActs, IsCall}
use Rattle.tko_mux.specs.Lines.{IsLinePushed, IsOnPipe, LineLeaves, LineState, first_on, forms_on, idle_line}
use Rattle.tko_mux.specs.Linking.{AreLinked}

-- the time limit of each connection, the sessions by number, and for each server its line
pub record MuxState (S P : Type 0) : Type 0 where
  pub limit : ℕ
  pub roster : RosterState (Client S) P
  pub lines : List LineState

-- a multiplexer is in order: each session can be called over the parts, and each client waits for
-- each server as often as its session awaits it
pub record IsMuxInOrder {S P : Type 0} (is_ready : P → Client S → Type 0) (awaited : S → List ℕ)
    (mux : MuxState S P) : Type 0 where
  pub ready : AreReady is_ready mux.roster
  pub linked : AreLinked awaited mux.roster.slots mux.lines

-- a session may join: it awaits nobody, and it can be called
pub record MayJoin {S : Type 0} (awaited : S → List ℕ) (is_ready : S → Type 0) (session : S)
    : Type 0 where
  pub idle : awaited session ≡ []
  pub ready : is_ready session

-- the lines to the servers stay, and how long a response may take on them
pub record LinesStay {S P : Type 0} (old new : MuxState S P) : Type 0 where
  pub lines : new.lines ≡ old.lines
  pub limit : new.limit ≡ old.limit

-- the line to one server before and after; all others stay
pub record IsOnLine (did : LineState → LineState → Type 0) (old : List LineState) (server : ℕ)
    (new : List LineState) : Type 0 where
  pub was : LineState
  pub now : LineState
  pub from : slice_get old server ≡ Some was
  pub ends : did was now
  pub to : new ≡ slice_set old server now

-- the line to one server changes so; the other lines, the sessions, their parts and the time limit
-- stay
pub record OneLineChanges {S P : Type 0} (did : LineState → LineState → Type 0)
    (old : MuxState S P) (server : ℕ) (new : MuxState S P) : Type 0 where
  pub on : IsOnLine did old.lines server new.lines
  pub roster : new.roster ≡ old.roster
  pub limit : new.limit ≡ old.limit

-- the number's session makes this call
abbrev pub Calls : {S P I O : Type 0} → AskingActs S P I O → (S → List ℕ)
    → RosterState (Client S) P → ℕ → Given I → Option ℕ → O → RosterState (Client S) P → Type 0
Calls acts awaited old number given asked did new =
    IsActed (IsCall acts awaited) old number (given, (asked, did)) new

-- the number's session has the request that it asks to send, if it asks
abbrev pub HasRequest : {S : Type 0} → (S → Option Request) → List (Option (Client S)) → ℕ
    → Option ℕ → Type 0
HasRequest asks_for slots number None = Unit {0}
HasRequest asks_for slots number (Some server) =
    IfHas slots number (λ client. IsSome (asks_for client.session))

-- the request of the number's session waits behind the others on this line
pub record IsPushedFor {S P : Type 0} (asks_for : S → Option Request)
    (roster : RosterState (Client S) P) (limit number due : ℕ) (old new : LineState) : Type 0 where
  pub client : Client S
  pub request : Request
  pub here : session_at roster.slots number ≡ Some client
  pub is_request : asks_for client.session ≡ Some request
  pub pushed : IsLinePushed limit old (pushing (asker.Client number) due request) new

-- the number's request goes out to this server
pub record IsRequestSent {S P : Type 0} (asks_for : S → Option Request) (old : MuxState S P)
    (number : ℕ) (server due : ℕ) (new : MuxState S P) : Type 0 where
  pub pushed : IsOnLine (λ was now. IsPushedFor asks_for old.roster old.limit number due was now)
      old.lines server new.lines
  pub kept : new.roster ≡ old.roster
  pub limit : new.limit ≡ old.limit

-- memory ran out for the number's request to this server, which is told its session
pub record IsSendStopped {S P I O : Type 0} (acts : AskingActs S P I O) (awaited : S → List ℕ)
    (old : MuxState S P) (number server : ℕ) (did : O) (new : MuxState S P) : Type 0 where
  pub told : Calls acts awaited old.roster number (Outcome server came.Unsent) None did new.roster
  pub kept : new.lines ≡ old.lines
  pub limit : new.limit ≡ old.limit

-- what is done for a session that asks: nothing if it asks nobody; else its request goes out, or
-- memory ran out for it
abbrev pub SendEnds : {S P I O : Type 0} → AskingActs S P I O → (S → List ℕ)
    → (S → Option Request) → MuxState S P → ℕ → Option ℕ → ℕ → Option O → MuxState S P → Type 0
SendEnds acts awaited asks_for old number None due stopped new =
    (stopped ≡ None) × (new ≡ old)
SendEnds acts awaited asks_for old number (Some server) due None new =
    IsRequestSent asks_for old number server due new
SendEnds acts awaited asks_for old number (Some server) due (Some did) new =
    IsSendStopped acts awaited old number server did new

-- the number's session makes this call, and whom it asks gets its request
pub record IsMade {S P I O : Type 0} (acts : AskingActs S P I O) (awaited : S → List ℕ)
    (asks_for : S → Option Request) (old : MuxState S P) (number : ℕ) (given : Given I) (due : ℕ)
    (done : Done O) (new : MuxState S P) : Type 0 where
  pub asked : Option ℕ
  pub mid : RosterState (Client S) P
  pub called : Calls acts awaited old.roster number given asked done.did mid
  pub sends : SendEnds acts awaited asks_for (record old { roster = mid }) number asked due
      done.stopped new

-- what came from this server for this one reaches it: a client's session takes it; what came for a
-- probe is returned; and what came for a client that had given up is dropped
abbrev pub IsDelivered : {S P I O : Type 0} → AskingActs S P I O → (S → List ℕ)
    → (S → Option Request) → MuxState S P → ℕ → Asker → Came → ℕ → Delivery O → MuxState S P
    → Type 0
IsDelivered acts awaited asks_for old server by what due (Reached number done) new =
    (by ≡ asker.Client number)
    × IsMade acts awaited asks_for old number (Outcome server what) due done new
IsDelivered acts awaited asks_for old server by what due (Probed it) new =
    (by ≡ asker.Probe) × (it ≡ what) × (new ≡ old)
IsDelivered acts awaited asks_for old server by what due (Dropped number) new =
    (by ≡ asker.GaveUp number) × (new ≡ old)

-- nobody has a number, and there is no connection to any of so many servers
abbrev pub begun_mux : {S P : Type 0} → ℕ → P → ℕ → MuxState S P
begun_mux limit parts servers = record {
  limit = limit;
  roster = nobody parts;
  lines = replicate servers idle_line;
}

-- the line to a server
abbrev pub line_at : {S P : Type 0} → MuxState S P → ℕ → Option LineState
line_at mux server = slice_get mux.lines server

-- the first request that is under way to a server, of a session
abbrev pub WaitsFor : Type 0 → Type 0
WaitsFor S = S → ℕ → Option Request

-- the request that a response is read by: the first of the client's session that is under way to
-- this server; the one that a probe sends; or, where the client gave up, the first of these forms
abbrev pub IsLent : {S P : Type 0} → WaitsFor S → RosterState (Client S) P → ℕ → List Request
    → Asker → Request → Type 0
IsLent {S} waits_for roster server forms (asker.Client number) it =
    (client : Client S) × (session_at roster.slots number ≡ Some client)
    × (waits_for client.session server ≡ Some it)
IsLent waits_for roster server forms asker.Probe it = it ≡ request.Version
IsLent waits_for roster server forms (asker.GaveUp number) it = slice_get forms 0 ≡ Some it

-- a response of this server was looked for on its line, to the request of the one that waits for it
pub record IsReadFor {S P : Type 0} (waits_for : WaitsFor S) (roster : RosterState (Client S) P)
    (server : ℕ) (by : Asker) (old : LineState)
    (taken : Result (Option (Asker × Response)) ShutCause) (new : LineState) : Type 0 where
  pub lent : Request
  pub is_lent : IsLent waits_for roster server (forms_on old.pipe) by lent
  pub on : IsOnPipe (λ was now. TakeEnds was lent taken now) old new

-- the same of the first that waits on this line, if somebody does
abbrev pub ReadsFirst : {S P : Type 0} → WaitsFor S → RosterState (Client S) P → ℕ → Option Waiter
    → LineState → Result (Option (Asker × Response)) ShutCause → LineState → Type 0
ReadsFirst waits_for roster server None old taken new = (taken ≡ Ok None) × (new ≡ old)
ReadsFirst waits_for roster server (Some waiter) old taken new =
    IsReadFor waits_for roster server waiter.by old taken new

abbrev pub ReadsOn : {S P : Type 0} → WaitsFor S → RosterState (Client S) P → ℕ → LineState
    → Result (Option (Asker × Response)) ShutCause → LineState → Type 0
ReadsOn waits_for roster server old taken new =
    ReadsFirst waits_for roster server (first_on old.pipe) old taken new

-- where the response that was read, if one was, goes
abbrev pub GoesToClient : {S P I O : Type 0} → AskingActs S P I O → (S → List ℕ)
    → (S → Option Request) → MuxState S P → ℕ → Result (Option (Asker × Response)) ShutCause → ℕ
    → Result (Option (Delivery O)) ShutCause → MuxState S P → Type 0
GoesToClient acts awaited asks_for mid server (Ok None) due result new =
    (result ≡ Ok None) × (new ≡ mid)
GoesToClient acts awaited asks_for mid server (Err cause) due result new =
    (result ≡ Err cause) × (new ≡ mid)
GoesToClient {S} {P} {I} {O} acts awaited asks_for mid server (Ok (Some taken)) due result new =
    (delivery : Delivery O) × (result ≡ Ok (Some delivery))
    × IsDelivered acts awaited asks_for mid server taken.0 (came.Response taken.1) due delivery new

-- a response of this server was looked for, to the first that waits for one, and reaches that
pub record IsResponseRead {S P I O : Type 0} (acts : AskingActs S P I O) (awaited : S → List ℕ)
    (asks_for : S → Option Request) (waits_for : WaitsFor S) (old : MuxState S P) (server due : ℕ)
    (result : Result (Option (Delivery O)) ShutCause) (new : MuxState S P) : Type 0 where
  pub taken : Result (Option (Asker × Response)) ShutCause
  pub lines : List LineState
  pub on : IsOnLine (λ was now. ReadsOn waits_for old.roster server was taken now) old.lines server
      lines
  pub reaches : GoesToClient acts awaited asks_for (record old { lines = lines })
      server taken due result new

-- the next of those that waited on a connection to this server that was shut is told what became of
-- its request
pub record IsTold {S P I O : Type 0} (acts : AskingActs S P I O) (awaited : S → List ℕ)
    (asks_for : S → Option Request) (old : MuxState S P) (server due : ℕ) (delivery : Delivery O)
    (new : MuxState S P) : Type 0 where
  pub by : Asker
  pub fate : Fate
  pub lines : List LineState
  pub on : IsOnLine (λ was now. LineLeaves was (Some (by, fate)) now) old.lines server lines
  pub reaches : IsDelivered acts awaited asks_for (record old { lines = lines }) server by
      (came.Fate fate) due delivery new

-- the next that leaves is told, or nobody waits on a connection that was shut
abbrev pub TellEnds : {S P I O : Type 0} → AskingActs S P I O → (S → List ℕ)
    → (S → Option Request) → MuxState S P → ℕ → ℕ → Option (Delivery O) → MuxState S P → Type 0
TellEnds acts awaited asks_for old server due None new =
    IsOnLine (λ was now. LineLeaves was None now) old.lines server new.lines
    × (new.roster ≡ old.roster) × (new.limit ≡ old.limit)
TellEnds acts awaited asks_for old server due (Some delivery) new =
    IsTold acts awaited asks_for old server due delivery new

-- nobody is left that waited on a connection to the server that was shut
abbrev pub HasNoneLeaving : Option LineState → Type 0
HasNoneLeaving None = Unit {0}
HasNoneLeaving (Some line) = line.ended ≡ None

-- a connection to this server may be shut: there is such a server, and nobody is left that waited
-- on one that was shut before
pub record MayShut {S P : Type 0} (mux : MuxState S P) (server : ℕ) : Type 0 where
  pub within : server < length mux.lines
  pub left : HasNoneLeaving (line_at mux server)
