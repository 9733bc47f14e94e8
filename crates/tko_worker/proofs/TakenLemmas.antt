-- What came from a server, and where there is no response yet.
use Rattle.std.proofs.Common.{◌≡◌, ℕ, Bool, true, false, List, refl, sym, ap, subst, ◌∙◌, Option, Some, None}
use Rattle.std.specs.Bool.{OnFalse, OnTrue}
use Rattle.std.specs.Prelude.{not, Result, Ok, Err, option_map, slice_get}
use Rattle.tko_text.specs.declared.request.Request.{Request}
use Rattle.tko_text.specs.declared.response.Response.{Response}
use Rattle.tko_pipe.specs.declared.fates.ShutCause.{ShutCause}
use Rattle.tko_pipe.specs.declared.link.Link.{Link}
use Rattle.tko_pipe.specs.declared.link.Link.TheVariants.{Connecting, Connected, Shut}
use Rattle.tko_pipe.specs.declared.waiter.Asker.{Asker}
use Rattle.tko_pipe.specs.declared.waiter.Waiter.{Waiter}
use Rattle.tko_pipe.specs.Pipes.{PipeState}
use Rattle.tko_roster.specs.Rosters.{RosterState}
use Rattle.tko_mux.specs.declared.client.Client.{Client}
use Rattle.tko_mux.specs.declared.mux.delivery.Delivery.{Delivery}
use Rattle.tko_mux.specs.Asks.{AskingActs}
use Rattle.tko_mux.specs.Lines.{forms_on, LineState, first_on, line_by}
use Rattle.tko_mux.specs.Muxes.{GoesToClient, IsLent, IsOnLine, IsResponseRead, MuxState, ReadsFirst, ReadsOn, TellEnds, WaitsFor, line_at}
use Rattle.tko_port.specs.Peers.{delivery_in}
use Rattle.tko_port.specs.declared.peer.Peer.{Peer}
use Rattle.tko_port.specs.Ports.{PortState}
use Rattle.tko_port.specs.Wires.{IsOpen, is_first_late}
use Rattle.tko_port.specs.declared.guest.Guest.{Guest}
use Rattle.tko_port.specs.declared.guest.SharedParts.{SharedParts}
use Rattle.tko_port.specs.declared.guest.Turned.{Turned}
use Rattle.tko_port.specs.Guests.{IsGuestCall}
use Rattle.tko_worker.specs.Servers.{AwaitsMore, HasLeftNext, HasNoResponse, HasResponseTaken, IsDrained, IsNothingRead, IsServerDone, ListsReached, pipe_at}
use Rattle.tko_worker.specs.declared.ends.EndCounts.{EndCounts}
use Rattle.tko_mux.specs.Giving.{NextOf}
use Rattle.tko_worker.specs.Counts.{MuxAndEnds}
use Rattle.tko_worker.specs.GivingUp.{NobodyGivesUp}
use Rattle.tko_worker.specs.Workers.{Sight, WorkerState}
use Rattle.tko_port.proofs.WireLemmas.{this_line}

-- the connection of a line is the one that the line was made of
live_of : (link : Link) (it pipe : PipeState) → (line_by link it).pipe ≡ Some pipe → it ≡ pipe
live_of Connecting it pipe is = cc is
live_of Connected it pipe is = cc is
live_of (Shut left) it pipe is = absurd (let none : ⊥ = cc is in none)

-- where no response was read on a line, none is there
none_there : {S P : Type 0} (waits_for : WaitsFor S) (roster : RosterState (Client S) P)
    (server : ℕ) (first : Option Waiter) (was now : LineState) (pipe : PipeState) → first_on was.pipe ≡ first
    → ReadsFirst waits_for roster server first was (Ok None) now → now.pipe ≡ Some pipe
    → AwaitsMore waits_for roster server (slice_get pipe.waiters 0) pipe
none_there waits_for roster server None was now pipe is read here =
    let before : was.pipe ≡ Some pipe = sym (ap (λ (l : LineState). l.pipe) read.1) ∙ here in
    let none : slice_get pipe.waiters 0 ≡ None = sym (ap first_on before) ∙ is in
    subst (λ (f : Option Waiter). AwaitsMore waits_for roster server f pipe) (sym none) tt
none_there waits_for roster server (Some waiter) was now pipe is read here =
    let on = read.on in
    let of : on.now ≡ pipe =
    live_of on.now.link on.now pipe (sym (ap (λ (l : LineState). l.pipe) on.to) ∙ here) in
    let same : on.was ≡ pipe = sym on.ends.0 ∙ of in
    let some : slice_get on.was.waiters 0 ≡ Some waiter = sym (ap first_on on.from) ∙ is in
    subst (λ (p : PipeState). AwaitsMore waits_for roster server (slice_get p.waiters 0) p) same
    (subst (λ (f : Option Waiter). AwaitsMore waits_for roster server f on.was) (sym some)
    (record {
      request = read.lent;
      is_lent = subst (λ f. IsLent waits_for roster server f waiter.by read.lent)
          (ap forms_on on.from) read.is_lent;
      short = on.ends.1;
    }))

none_on : {S P : Type 0} (waits_for : WaitsFor S) (old : MuxState S P)
    (lines : List LineState) (server : ℕ)
    → IsOnLine (λ was now. ReadsOn waits_for old.roster server was (Ok None) now) old.lines server lines
    → HasNoResponse waits_for (record old { lines = lines }) server
none_on waits_for old lines server on pipe here link =
    let at : on.now.pipe ≡ Some pipe =
    sym (ap pipe_at (this_line _ old.lines lines server on)) ∙ here in
    none_there waits_for old.roster server (first_on on.was.pipe) on.was on.now pipe refl on.ends at

none_by : {S P I O : Type 0} (acts : AskingActs S P I O) (awaited : S → List ℕ)
    (asks_for : S → Option Request) (waits_for : WaitsFor S) (old new : MuxState S P)
    (lines : List LineState) (server due : ℕ) (taken : Result (Option (Asker × Response)) ShutCause)
    → IsOnLine (λ was now. ReadsOn waits_for old.roster server was taken now) old.lines server lines
    → GoesToClient acts awaited asks_for (record old { lines = lines }) server taken due
    (Ok None) new
    → HasNoResponse waits_for new server
none_by {S} {P} acts awaited asks_for waits_for old new lines server due (Ok None) on reaches =
    subst (λ (m : MuxState S P). HasNoResponse waits_for m server) (sym reaches.1)
    (none_on waits_for old lines server on)
none_by acts awaited asks_for waits_for old new lines server due (Err why) on reaches =
    absurd (let e = reaches.0 in let f : ⊥ = cc e in f)
none_by acts awaited asks_for waits_for old new lines server due (Ok (Some taken)) on reaches =
    absurd (let e = reaches.1 in let f : ⊥ = cc e in f)

none_read : {S P I O : Type 0} (acts : AskingActs S P I O) (awaited : S → List ℕ)
    (asks_for : S → Option Request) (waits_for : WaitsFor S) (old new : MuxState S P)
    (server due : ℕ)
    → IsResponseRead acts awaited asks_for waits_for old server due (Ok None) new
    → HasNoResponse waits_for new server
none_read acts awaited asks_for waits_for old new server due read =
    none_by acts awaited asks_for waits_for old new read.lines server due read.taken read.on read.reaches

pub none_taken : {L T P : Type 0} (sight : Sight L T) (asks_for : Guest L T → Option Request)
    (waits_for : WaitsFor (Guest L T))
    (old new : WorkerState L T P) (server due : ℕ)
    → HasResponseTaken sight asks_for waits_for old server due (Ok None) new
    → HasNoResponse waits_for new.mux server
none_taken {L} {T} {P} sight asks_for waits_for old new server due taken =
    subst (λ (m : MuxState (Guest L T) (SharedParts P)). HasNoResponse waits_for m server)
    (sym (ap (λ (p : MuxAndEnds L T P). p.0) taken.listed.0))
    (none_read (IsGuestCall sight.0 sight.1 sight.2) (λ guest. sight.0 guest.talk) asks_for
    waits_for old.mux taken.mid server due taken.read)

pub taken_by : {L T P : Type 0} (sight : Sight L T) (asks_for : Guest L T → Option Request)
    (waits_for : WaitsFor (Guest L T))
    (inside old : WorkerState L T P) (mid mux : MuxState (Guest L T) (SharedParts P)) (touched : List ℕ)
    (ends : EndCounts) (server due : ℕ) (result told : Result (Option (Delivery Turned)) ShutCause)
    → inside ≡ old
    → result ≡ told
    → IsResponseRead (IsGuestCall sight.0 sight.1 sight.2) (λ guest. sight.0 guest.talk) asks_for
    waits_for inside.mux server due result mid
    → ListsReached sight (mid, inside.ends) (delivery_in told) inside.spent inside.touched
    (mux, ends) touched
    → HasResponseTaken sight asks_for waits_for old server due told
    (record { mux = mux; touched = touched; spent = inside.spent; ends = ends })
taken_by {L} {T} {P} sight asks_for waits_for inside old mid mux touched ends server due result told same is
    read
    listed =
    subst (λ (w : WorkerState L T P). HasResponseTaken sight asks_for waits_for w server due told
    (record { mux = mux; touched = touched; spent = inside.spent; ends = ends })) same
    (record {
      mid = mid;
      read = subst (λ r. IsResponseRead (IsGuestCall sight.0 sight.1 sight.2)
          (λ guest. sight.0 guest.talk) asks_for waits_for inside.mux server due r mid) is read;
      listed = listed;
      spent = refl;
    })

pub left_by : {L T P : Type 0} (sight : Sight L T) (asks_for : Guest L T → Option Request)
    (inside old : WorkerState L T P) (mid mux : MuxState (Guest L T) (SharedParts P)) (touched : List ℕ)
    (ends : EndCounts) (server due : ℕ) (result told : Option (Delivery Turned)) → inside ≡ old →
    result ≡ told
    → TellEnds (IsGuestCall sight.0 sight.1 sight.2) (λ guest. sight.0 guest.talk) asks_for
    inside.mux server due result mid
    → ListsReached sight (mid, inside.ends) told inside.spent inside.touched (mux, ends) touched
    → HasLeftNext sight asks_for old server due told
    (record { mux = mux; touched = touched; spent = inside.spent; ends = ends })
left_by {L} {T} {P} sight asks_for inside old mid mux touched ends server due result told same is
    left
    listed =
    subst (λ (w : WorkerState L T P). HasLeftNext sight asks_for w server due told
    (record { mux = mux; touched = touched; spent = inside.spent; ends = ends })) same
    (record {
      mid = mid;
      left = subst (λ r. TellEnds (IsGuestCall sight.0 sight.1 sight.2)
          (λ guest. sight.0 guest.talk) asks_for inside.mux server due r mid) is left;
      listed = listed;
      spent = refl;
    })

-- the same, where a look for a response tells whether one came
pub none_unless : {L T P : Type 0} (sight : Sight L T) (asks_for : Guest L T → Option Request)
    (waits_for : WaitsFor (Guest L T))
    (old new : WorkerState L T P) (server due : ℕ)
    (result : Result (Option (Delivery Turned)) ShutCause) (more : Bool)
    → OnFalse more (result ≡ Ok None) → HasResponseTaken sight asks_for waits_for old server due result new
    → OnFalse more (HasNoResponse waits_for new.mux server)
none_unless sight asks_for waits_for old new server due result true none taken = tt
none_unless sight asks_for waits_for old new server due result false none taken =
    none_taken sight asks_for waits_for old new server due
    (subst (λ r. HasResponseTaken sight asks_for waits_for old server due r new) none taken)

-- what was drained stays so where nothing can be read
pub drained_by : {L T P : Type 0} (waits_for : WaitsFor (Guest L T)) (old new : WorkerState L T P)
    (server : ℕ) (port : Option PortState) → IsOpen (line_at old.mux server)
    → HasNoResponse waits_for old.mux server → IsNothingRead old server port new
    → IsDrained waits_for new.mux server port
drained_by {L} {T} {P} waits_for old new server port is_open taken nothing = record {
  is_open = subst (λ (w : WorkerState L T P). IsOpen (line_at w.mux server)) (sym nothing.kept)
      is_open;
  cannot = nothing.cannot;
  taken = subst (λ (w : WorkerState L T P). HasNoResponse waits_for w.mux server)
      (sym nothing.kept) taken;
}

-- and where nothing is late
pub still_done : {L T P : Type 0} (port : L → PortState) (waits_for : WaitsFor (Guest L T))
    (moment : ℕ) (old new : WorkerState L T P) (was now : Peer L) (server : ℕ) (late : Bool)
    → OnFalse late ((new ≡ old) × (now ≡ was))
    → OnFalse late (is_first_late (line_at old.mux server) moment ≡ false)
    → IsDrained waits_for old.mux server (option_map port was.socket)
    → OnTrue (not late)
    (IsServerDone waits_for new.mux server (option_map port now.socket) moment)
still_done port waits_for moment old new was now server true kept early drained = tt
still_done {L} {T} {P} port waits_for moment old new was now server false kept early drained =
    subst (λ (w : WorkerState L T P). IsServerDone waits_for w.mux server
    (option_map port now.socket) moment) (sym kept.0)
    (subst (λ (p : Peer L). IsServerDone waits_for old.mux server (option_map port p.socket) moment)
    (sym kept.1) (record { drained = drained; time = early }))

-- and where nobody is to give up, nothing else changes either
pub done_still : {L T P : Type 0} (port : L → PortState) (waits_for : WaitsFor (Guest L T))
    (has_next : NextOf (Guest L T)) (moment : ℕ) (old new : WorkerState L T P) (was now : Peer L)
    (server : ℕ) (quiet late : Bool) → late ≡ false
    → OnTrue quiet (NobodyGivesUp has_next server moment old new was now)
    → OnTrue (not late) (IsServerDone waits_for old.mux server (option_map port was.socket) moment)
    → OnTrue quiet (IsServerDone waits_for new.mux server (option_map port now.socket) moment)
done_still port waits_for has_next moment old new was now server false late is none done = tt
done_still {L} {T} {P} port waits_for has_next moment old new was now server true late is none
    done =
    let before = subst (λ l. OnTrue (not l)
    (IsServerDone waits_for old.mux server (option_map port was.socket) moment)) is done in
    subst (λ (w : WorkerState L T P). IsServerDone waits_for w.mux server
    (option_map port now.socket) moment) (sym none.kept)
    (subst (λ (p : Peer L). IsServerDone waits_for old.mux server (option_map port p.socket) moment)
    (sym none.peer) before)
