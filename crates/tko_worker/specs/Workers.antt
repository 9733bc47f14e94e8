-- A worker: who rests, and who is to be served.
use Rattle.std.specs.Prelude.{◌≡◌, ◌≢◌, ◌⊎◌, ℕ, List, [], ◌∷◌, ◌++◌, Option, Some, None}
use Rattle.std.specs.Option.{option_and_then}
use Rattle.tko_model.specs.Records.{Gains}
use Rattle.tko_roster.specs.Rosters.{AreReady, IsAdmitted, IsMoved, IsReleased, session_at}
use Rattle.tko_mux.specs.declared.client.Client.{Client}
use Rattle.tko_mux.specs.declared.asking.Given.TheVariants.{Input}
use Rattle.tko_mux.specs.declared.mux.delivery.Delivery.{Delivery}
use Rattle.tko_mux.specs.declared.mux.delivery.Delivery.TheVariants.{Dropped, Probed, Reached}
use Rattle.tko_mux.specs.declared.mux.delivery.Done.{Done}
use Rattle.tko_mux.specs.Linking.{AreLinked, IsNotForgotten}
use Rattle.tko_mux.specs.Muxes.{IsMade, MuxState}
use Rattle.tko_text.specs.declared.request.Request.{Request}
use Rattle.tko_port.specs.declared.guest.ClientEvent.{ClientEvent}
use Rattle.tko_port.specs.declared.guest.ClientEvent.TheVariants.{Leave, Serve}
use Rattle.tko_port.specs.declared.guest.Presence.{Presence}
use Rattle.tko_port.specs.declared.guest.Presence.TheVariants.{Here, Leaving}
use Rattle.tko_port.specs.declared.guest.Guest.{Guest}
use Rattle.tko_port.specs.declared.guest.Turned.{Turned}
use Rattle.tko_port.specs.declared.guest.Turned.TheVariants.{AsksMore}
use Rattle.tko_port.specs.declared.guest.SharedParts.{SharedParts}
use Rattle.tko_port.specs.Guests.{IsGuestCall, IsResting, guest_seen, noting, presence_after}
use Rattle.tko_port.specs.Lives.{IsGuestReady}
use Rattle.tko_port.specs.Ports.{PortState}
use Rattle.tko_worker.specs.declared.ends.EndCounts.{EndCounts}
use Rattle.tko_port.specs.declared.settling.End.{End}
use Rattle.tko_port.specs.declared.settling.End.TheVariants.{Memory}
use Rattle.tko_port.specs.declared.talking.Tally.{Tally}
use Rattle.tko_port.specs.Talks.{Readiness, Talk, tally_of}
use Rattle.tko_worker.specs.Counts.{MuxAndEnds, counted_end}
use Rattle.tko_worker.specs.Numbers.{IsAmong, IsIn}

-- the clients and their servers; the numbers of clients that are to be served in this turn; those
-- that were put off, which are served after them, a few in each turn; and how many ended since
-- their ends were taken
pub record WorkerState (L T P : Type 0) : Type 0 where
  pub mux : MuxState (Guest L T) (SharedParts P)
  pub touched : List ℕ
  pub spent : List ℕ
  pub ends : EndCounts

-- what is told of a client that is not to leave
abbrev pub tally_by : Presence → Talk → Option Tally
tally_by Here talk = Some (tally_of talk)
tally_by (Leaving why) talk = None

abbrev pub tally_at : {L T : Type 0} → (T → Talk) → List (Option (Client (Guest L T))) → ℕ
    → Option Tally
tally_at talk slots number =
    option_and_then (λ client. tally_by client.session.presence (talk client.session.talk))
    (session_at slots number)

-- what is seen of a guest
abbrev pub Sight : Type 0 → Type 0 → Type 0
Sight L T = (T → List ℕ) × (T → Talk) × (L → PortState)

-- nothing can be done for a number before its next event: it has no client, or that rests
abbrev pub Rests : {L T : Type 0} → Sight L T → Option (Client (Guest L T)) → Type 0
Rests sight None = Unit {0}
Rests sight (Some client) = IsResting (guest_seen sight.0 sight.1 sight.2 client.session)

abbrev pub RestAt : {L T : Type 0} → Sight L T → List (Option (Client (Guest L T))) → ℕ → Type 0
RestAt sight slots number = Rests sight (session_at slots number)

-- the other numbers have their clients as before
abbrev pub OthersStay : {L T : Type 0} → ℕ → List (Option (Client (Guest L T)))
    → List (Option (Client (Guest L T))) → Type 0
OthersStay number old new =
    (other : ℕ) → other ≢ number → session_at new other ≡ session_at old other

-- nobody is forgotten: each number rests, or is among those that are to be served
abbrev pub NobodyForgotten : {L T : Type 0} → Sight L T → List (Option (Client (Guest L T)))
    → List ℕ → List ℕ → Type 0
NobodyForgotten sight slots touched spent =
    (number : ℕ) → RestAt sight slots number ⊎ (IsIn number touched ⊎ IsIn number spent)

-- a worker is in order: each session can be called over the parts, what was read from its client's
-- port is what came to it, and what was written there is what went from it; each client waits for
-- each server as often as its session awaits it; and nobody is forgotten
pub record IsInOrder {L T P : Type 0} (sight : Sight L T) (is_ready : Readiness P T)
    (worker : WorkerState L T P) : Type 0 where
  pub ready : AreReady (λ shared client. IsGuestReady is_ready sight.2 shared.parts client.session)
      worker.mux.roster
  pub linked : AreLinked (λ guest. sight.0 guest.talk) worker.mux.roster.slots worker.mux.lines
  pub nobody : NobodyForgotten sight worker.mux.roster.slots worker.touched worker.spent

-- a number was noted as one that is to be served, or it rests, or waits among those that were put
-- off
abbrev pub IsNotedToServe : {L T : Type 0} → Sight L T → List (Option (Client (Guest L T))) → ℕ
    → List ℕ → List ℕ → List ℕ → Type 0
IsNotedToServe sight slots number off old new =
    ((RestAt sight slots number ⊎ IsIn number off) × (new ≡ old)) ⊎ IsAmong number old new

-- an event was noted at a number's client. Its session, all others and all else stay
pub record IsNotedAt {L T P : Type 0} (port : L → PortState) (event : ClientEvent)
    (old : MuxState (Guest L T) (SharedParts P)) (number : ℕ)
    (new : MuxState (Guest L T) (SharedParts P)) : Type 0 where
  pub was : Client (Guest L T)
  pub now : Client (Guest L T)
  pub moved : IsMoved old.roster.slots number (Some was) (Some now) new.roster.slots
  pub flag : port now.session.port ≡ noting event (port was.session.port)
  pub presence : now.session.presence ≡ presence_after event was.session.presence
  pub talk : now.session.talk ≡ was.session.talk
  pub parts : new.roster.parts ≡ old.roster.parts
  pub lines : new.lines ≡ old.lines
  pub limit : new.limit ≡ old.limit

-- an event came for a number: it has no client, and nothing changes; or it was noted at its port
pub data HasReached {L T P : Type 0} (port : L → PortState) (event : ClientEvent)
    (old : MuxState (Guest L T) (SharedParts P)) (number : ℕ)
    (new : MuxState (Guest L T) (SharedParts P)) : Type 0 where
  nobody : session_at old.roster.slots number ≡ None → new ≡ old
      → HasReached port event old number new
  noted : IsNotedAt port event old number new → HasReached port event old number new

-- the client of a number left, which has no request under way
pub record HasLeft {L T P : Type 0} (awaited : T → List ℕ)
    (old : MuxState (Guest L T) (SharedParts P)) (number : ℕ)
    (new : MuxState (Guest L T) (SharedParts P)) : Type 0 where
  pub client : Client (Guest L T)
  pub released : IsReleased (λ it. awaited it.session.talk) old.roster number client new.roster
  pub lines : new.lines ≡ old.lines
  pub limit : new.limit ≡ old.limit

-- the client of a number, if it has one, is not to leave yet
abbrev pub IsHere : {L T : Type 0} → List (Option (Client (Guest L T))) → ℕ → Type 0
IsHere {L} {T} slots number = (client : Client (Guest L T))
    → session_at slots number ≡ Some client → client.session.presence ≡ Here

-- where a client was to leave: it left, which is counted as this end; or a request of it is under
-- way, or there is none: then it stays, if it rests, and else it is to leave so as soon as it can
pub data DropEnds {L T P : Type 0} (sight : Sight L T) (why : End) (old : MuxAndEnds L T P)
    (number : ℕ) (new : MuxAndEnds L T P) : Type 0 where
  kept : IsNotForgotten (λ guest. sight.0 guest.talk) old.0.roster.slots number
      → RestAt sight old.0.roster.slots number → new ≡ old → DropEnds sight why old number new
  leaving : IsNotForgotten (λ guest. sight.0 guest.talk) old.0.roster.slots number
      → IsHere old.0.roster.slots number
      → HasReached sight.2 (Leave why) old.0 number new.0 → new.1 ≡ old.1
      → DropEnds sight why old number new
  left : HasLeft sight.0 old.0 number new.0 → new.1 ≡ counted_end why old.1
      → DropEnds sight why old number new

-- a number was noted as one that is to be served; or it waits among those that were put off; or
-- memory ran out for that, and its client was to leave
pub data ListEnds {L T P : Type 0} (sight : Sight L T) (old : MuxAndEnds L T P) (number : ℕ)
    (off numbers : List ℕ) (new : MuxAndEnds L T P) (now : List ℕ) : Type 0 where
  listed : IsAmong number numbers now → new ≡ old → ListEnds sight old number off numbers new now
  waits : IsIn number off → now ≡ numbers → new ≡ old
      → ListEnds sight old number off numbers new now
  lost : now ≡ numbers → DropEnds sight Memory old number new
      → ListEnds sight old number off numbers new now

-- an event came for a number, and its client is to be served in this turn
pub record IsNoted {L T P : Type 0} (sight : Sight L T) (event : ClientEvent)
    (old : WorkerState L T P) (number : ℕ) (new : WorkerState L T P) : Type 0 where
  pub reached : MuxState (Guest L T) (SharedParts P)
  pub has_reached : HasReached sight.2 event old.mux number reached
  pub listed : ListEnds sight (reached, old.ends) number old.spent old.touched (new.mux, new.ends)
      new.touched
  pub spent : new.spent ≡ old.spent

-- a client has the number, with this port and this session, and is to be served in this turn
pub record IsClientOpened {L T P : Type 0} (sight : Sight L T) (old : WorkerState L T P) (port : L)
    (talk : T) (number : ℕ) (new : WorkerState L T P) : Type 0 where
  pub mid : MuxState (Guest L T) (SharedParts P)
  pub admitted : IsAdmitted old.mux.roster number
      (record { session = record { port = port; talk = talk; presence = Here } }) mid.roster
  pub lines : mid.lines ≡ old.mux.lines
  pub limit : mid.limit ≡ old.mux.limit
  pub listed : ListEnds sight (mid, old.ends) number old.spent old.touched (new.mux, new.ends)
      new.touched
  pub spent : new.spent ≡ old.spent

-- the client of a number was served, asked a server, and can go on
pub record AsksOn {L T P : Type 0} (sight : Sight L T) (asks_for : Guest L T → Option Request)
    (number due : ℕ) (old : MuxState (Guest L T) (SharedParts P)) (done : Done Turned)
    (new : MuxState (Guest L T) (SharedParts P)) : Type 0 where
  pub made : IsMade (IsGuestCall sight.0 sight.1 sight.2) (λ guest. sight.0 guest.talk) asks_for old
      number (Input Serve) due done new
  pub more : done.did ≡ AsksMore

-- the client of a number was served, once or more often: each time but the last it asked a server,
-- and could go on
pub record WasServed {L T P : Type 0} (sight : Sight L T) (asks_for : Guest L T → Option Request)
    (old : MuxState (Guest L T) (SharedParts P)) (number due : ℕ)
    (new : MuxState (Guest L T) (SharedParts P)) : Type 0 where
  pub asks : List (Done Turned)
  pub before : MuxState (Guest L T) (SharedParts P)
  pub asked : Gains (AsksOn sight asks_for number due) old asks before
  pub done : Done Turned
  pub made : IsMade (IsGuestCall sight.0 sight.1 sight.2) (λ guest. sight.0 guest.talk) asks_for
      before number (Input Serve) due done new

-- the client of a number was served, whatever it came to
abbrev pub IsSpentAfter : {L T P : Type 0} → Sight L T → (Guest L T → Option Request)
    → MuxState (Guest L T) (SharedParts P) → ℕ → ℕ → Type 0
IsSpentAfter {L} {T} {P} sight asks_for old number due =
    (mid : MuxState (Guest L T) (SharedParts P)) × WasServed sight asks_for old number due mid

-- what serving a number comes to: it rests; or it was served, and is noted as one that is served
-- again, behind the others that were put off
abbrev pub IsNumberServed : {L T P : Type 0} → Sight L T → (Guest L T → Option Request)
    → MuxState (Guest L T) (SharedParts P) → ℕ → ℕ → MuxState (Guest L T) (SharedParts P)
    → List ℕ → List ℕ → Type 0
IsNumberServed sight asks_for old number due new spent now_spent =
    (RestAt sight new.roster.slots number × (now_spent ≡ spent))
    ⊎ (IsSpentAfter sight asks_for old number due × IsAmong number spent now_spent)

-- the others have their clients as before, than the one that something reached, if it reached one
abbrev pub OthersStayFor : {L T : Type 0} → Delivery Turned → List (Option (Client (Guest L T)))
    → List (Option (Client (Guest L T))) → Type 0
OthersStayFor (Reached number done) old new = OthersStay number old new
OthersStayFor (Probed it) old new = (other : ℕ) → session_at new other ≡ session_at old other
OthersStayFor (Dropped number) old new =
    (other : ℕ) → session_at new other ≡ session_at old other

-- the client that something reached, if it reached one, was noted as one that is to be served
abbrev pub IsListedFor : {L T : Type 0} → Sight L T → List (Option (Client (Guest L T)))
    → Delivery Turned → List ℕ → List ℕ → List ℕ → Type 0
IsListedFor sight slots (Reached number done) off old new =
    IsNotedToServe sight slots number off old new
IsListedFor sight slots (Probed it) off old new = new ≡ old
IsListedFor sight slots (Dropped number) off old new = new ≡ old
