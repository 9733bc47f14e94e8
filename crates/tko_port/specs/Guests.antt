-- A client, its port and its session together, as it is called.
use Rattle.std.specs.Prelude.{◌≡◌, ◌≢◌, ℕ, List, [], Option, None, IsSome}
use Rattle.tko_mux.specs.declared.asking.Given.{Given}
use Rattle.tko_mux.specs.declared.asking.Given.TheVariants.{Input, Outcome}
use Rattle.tko_port.specs.declared.guest.ClientEvent.{ClientEvent}
use Rattle.tko_port.specs.declared.guest.ClientEvent.TheVariants.{Ended, Leave, Readable, Serve, Writable}
use Rattle.tko_port.specs.declared.guest.Guest.{Guest}
use Rattle.tko_port.specs.declared.guest.Presence.{Presence}
use Rattle.tko_port.specs.declared.guest.Presence.TheVariants.{Here, Leaving}
use Rattle.tko_port.specs.declared.guest.SharedParts.{SharedParts}
use Rattle.tko_port.specs.declared.guest.Turned.{Turned}
use Rattle.tko_port.specs.declared.guest.Turned.TheVariants.{Asks, AsksMore, Ends, Noted, Rests, Spent, Took}
use Rattle.tko_port.specs.declared.settling.End.TheVariants.{Finished, LineTooLong, Memory, ReadFailed, WriteFailed}
use Rattle.tko_port.specs.declared.talking.SessionStage.TheVariants.{Over, TooLong, Waits}
use Rattle.tko_port.specs.Ports.{PortState, now_readable, now_writable}
use Rattle.tko_port.specs.Rests.{AtRest}
use Rattle.tko_port.specs.Talks.{Talk}

-- it asks a server exactly if it says so
abbrev pub AsksIf : Turned → Option ℕ → Type 0
AsksIf Asks asked = IsSome asked
AsksIf AsksMore asked = IsSome asked
AsksIf Rests asked = asked ≡ None
AsksIf Spent asked = asked ≡ None
AsksIf (Ends why) asked = asked ≡ None
AsksIf Noted asked = asked ≡ None
AsksIf Took asked = Unit {0}

-- what serving it came to
abbrev pub ServedAs : Turned → List ℕ → Talk → PortState → Type 0
ServedAs Asks awaited talk port = (talk.stage ≡ Waits) × (awaited ≢ [])
ServedAs AsksMore awaited talk port = Unit {0}
ServedAs Rests awaited talk port = AtRest awaited talk port
ServedAs Spent awaited talk port = Unit {0}
ServedAs (Ends Finished) awaited talk port = (talk.stage ≡ Over) × (talk.output ≡ [])
ServedAs (Ends LineTooLong) awaited talk port = (talk.stage ≡ TooLong) × (talk.output ≡ [])
ServedAs (Ends Memory) awaited talk port = Unit {0}
ServedAs (Ends ReadFailed) awaited talk port = Unit {0}
ServedAs (Ends WriteFailed) awaited talk port = Unit {0}
ServedAs Noted awaited talk port = ⊥
ServedAs Took awaited talk port = ⊥

-- a client as it is seen: whom it awaits, its session and its port, and whether it is still served
pub record Seen : Type 0 where
  pub awaited : List ℕ
  pub talk : Talk
  pub port : PortState
  pub presence : Presence

abbrev pub guest_seen : {L T : Type 0} → (T → List ℕ) → (T → Talk) → (L → PortState)
    → Guest L T → Seen
guest_seen awaited talk port guest = record {
  awaited = awaited guest.talk;
  talk = talk guest.talk;
  port = port guest.port;
  presence = guest.presence;
}

-- this only says what came, and does not serve the client
abbrev pub IsNotice : ClientEvent → Type 0
IsNotice Readable = Unit {0}
IsNotice Writable = Unit {0}
IsNotice Ended = Unit {0}
IsNotice (Leave why) = Unit {0}
IsNotice Serve = ⊥

-- what that does to the client's port
abbrev pub noting : ClientEvent → PortState → PortState
noting Readable port = now_readable port
noting Writable port = now_writable port
noting Ended port = now_readable port
noting (Leave why) port = port
noting Serve port = port

-- whether the client is still served after it
abbrev pub presence_after : ClientEvent → Presence → Presence
presence_after Readable presence = presence
presence_after Writable presence = presence
presence_after Ended presence = presence
presence_after (Leave why) presence = Leaving why
presence_after Serve presence = presence

-- whether a client is still served once serving it came to this: one that ended leaves
abbrev pub presence_of : Turned → Presence
presence_of Noted = Here
presence_of Took = Here
presence_of Asks = Here
presence_of AsksMore = Here
presence_of Rests = Here
presence_of Spent = Here
presence_of (Ends why) = Leaving why

-- what serving it does: one that leaves ends as it was to, and nothing is read from it or written
-- to it
abbrev pub ServesAs : Presence → Option ℕ → Turned → Seen → Seen → Type 0
ServesAs Here asked did old new =
    ServedAs did new.awaited new.talk new.port × AsksIf did asked × (new.presence ≡ presence_of did)
ServesAs (Leaving why) asked did old new = (did ≡ Ends why) × (asked ≡ None) × (new ≡ old)

-- what a call does to it: an event is noted at its port, and its session stays; or it is served; or
-- its session takes what came, and its port stays
abbrev pub GuestDoes : Given ClientEvent → Option ℕ → Turned → Seen → Seen → Type 0
GuestDoes (Input Readable) asked did old new =
    (did ≡ Noted) × (new ≡ record old { port = now_readable old.port })
GuestDoes (Input Writable) asked did old new =
    (did ≡ Noted) × (new ≡ record old { port = now_writable old.port })
GuestDoes (Input Ended) asked did old new =
    (did ≡ Noted) × (new ≡ record old { port = now_readable old.port })
GuestDoes (Input (Leave why)) asked did old new =
    (did ≡ Noted) × (new ≡ record old { presence = Leaving why })
GuestDoes (Input Serve) asked did old new = ServesAs old.presence asked did old new
GuestDoes (Outcome server came) asked did old new =
    (did ≡ Took) × (new.port ≡ old.port) × (new.presence ≡ old.presence)

-- an event leaves the session as it is, and what all clients share
abbrev pub EventKeeps : {L T P : Type 0} → Given ClientEvent → Guest L T × SharedParts P
    → Guest L T × SharedParts P → Type 0
EventKeeps (Input Readable) old new = (new.0.talk ≡ old.0.talk) × (new.1 ≡ old.1)
EventKeeps (Input Writable) old new = (new.0.talk ≡ old.0.talk) × (new.1 ≡ old.1)
EventKeeps (Input Ended) old new = (new.0.talk ≡ old.0.talk) × (new.1 ≡ old.1)
EventKeeps (Input (Leave why)) old new = (new.0.talk ≡ old.0.talk) × (new.1 ≡ old.1)
EventKeeps (Input Serve) old new = Unit {0}
EventKeeps (Outcome server came) old new = Unit {0}

pub record IsGuestCall {L T P : Type 0} (awaited : T → List ℕ) (talk : T → Talk)
    (port : L → PortState) (old : Guest L T × SharedParts P)
    (call : Given ClientEvent × (Option ℕ × Turned)) (new : Guest L T × SharedParts P)
    : Type 0 where
  pub did : GuestDoes call.0 call.1.0 call.1.1 (guest_seen awaited talk port old.0)
      (guest_seen awaited talk port new.0)
  pub kept : EventKeeps call.0 old new

-- nothing can be done for a client before its next event; one that leaves rests only as long as a
-- request of it is under way
abbrev pub RestsBy : Presence → Seen → Type 0
RestsBy Here it = AtRest it.awaited it.talk it.port
RestsBy (Leaving why) it = it.awaited ≢ []

abbrev pub IsResting : Seen → Type 0
IsResting it = RestsBy it.presence it
