-- A call of a client's session, and what is recorded after it, over the parts that all clients of a
-- worker share.
use Rattle.std.specs.Prelude.{◌≡◌, ◌≢◌, ℕ, List, [], ◌∷◌, IsSome, Option, Some, None, Ok, length}
use Rattle.std.specs.Prelude.{slice_index}
use Rattle.tko_model.specs.Records.{Gains}
use Rattle.tko_health.specs.declared.health.Health.{Ghosts as HealthGhosts}
use Rattle.tko_links.specs.declared.links.Outcome.{Outcome}
use Rattle.tko_reply.specs.Ghosts.{PartsGhosts}
use Rattle.tko_reply.specs.Interactions.{Interaction, Interacts}
use Rattle.tko_reply.specs.Standing.{SentKey}
use Rattle.tko_reply.specs.declared.parts.Parts.{Parts}
use Rattle.tko_reply.specs.declared.trails.Trails.{Ghosts as TrailsGhosts}
use Rattle.tko_text.specs.Reading.{Never, Reading}
use Rattle.tko_session.specs.Acts.{IsLoss, IsSessionCall, IsToRecord, came_to, left_after}
use Rattle.tko_session.specs.Clients.{ClientPhase, Open, Over as PhaseOver, Short as PhaseShort}
use Rattle.tko_session.specs.Awaiting.{awaited_in}
use Rattle.tko_session.specs.Driven.{IsSessionReady, dropped}
use Rattle.tko_session.specs.SessionState.{SessionState, progress_after}
use Rattle.tko_session.specs.Working.{Awaits, Between, Work, request_read_in}
use Rattle.tko_session.specs.declared.step.Progress.{Progress}
use Rattle.tko_session.specs.declared.step.Progress.TheVariants as progress
use Rattle.tko_session.specs.declared.step.Step.{Step}
use Rattle.tko_session.specs.declared.step.Step.TheVariants as step
use Rattle.tko_client.specs.declared.answering.Answering.{Answering}
use Rattle.tko_client.specs.declared.calls.Went.{Went}
use Rattle.tko_client.specs.declared.calls.Went.TheVariants.{Asks, NeedsInput, On, Over, Short}
use Rattle.tko_client.specs.declared.calls.Went.TheVariants.{TooLong, Waits}
use Rattle.tko_client.specs.Answerings.{IsClientIdle, IsOwn, MayCallClient, awaited_by_client}

-- what the parts of an event-driven worker show to its sessions: the connections are not the
-- sessions', so a send is seen by its count alone; and no clock is read
abbrev pub client_ghosts : {H T C : Type 0} → HealthGhosts H → TrailsGhosts T
    → PartsGhosts H (List ℕ) T C
client_ghosts health trails = record {
  backend = record {
    steps = health.steps;
    grants = health.grants;
    exchanges = λ old item new. Unit {0};
    sent = slice_index;
    probed = λ counts server. 0;
    reads = λ old moment new. ⊥;
  };
  records = trails.records;
}

-- what an item that was answered came to
abbrev pub went_of : Progress → Went
went_of progress.More = On
went_of progress.NeedsInput = NeedsInput
went_of progress.Quit = Over
went_of progress.LineTooLong = TooLong

-- what a call that said this came to
abbrev pub went_from : Step → Went
went_from step.Began = On
went_from (step.Asks clear) = Asks clear
went_from (step.Tried trail) = On
went_from (step.Refused fault) = went_of (progress_after fault)
went_from (step.At at) = went_of at

-- the server that is asked
abbrev pub server_asked_in : Went → Option ℕ
server_asked_in (Asks server) = Some server
server_asked_in On = None
server_asked_in Waits = None
server_asked_in NeedsInput = None
server_asked_in Over = None
server_asked_in TooLong = None
server_asked_in Short = None

abbrev pub phase_of : Went → ClientPhase
phase_of Over = PhaseOver
phase_of TooLong = PhaseOver
phase_of (Asks server) = Open
phase_of On = Open
phase_of Waits = Open
phase_of NeedsInput = Open
phase_of Short = PhaseShort

-- after a line that was too long nothing is read
abbrev pub WentReading : Went → Reading → Type 0
WentReading (Asks server) reading = Unit {0}
WentReading On reading = Unit {0}
WentReading Waits reading = Unit {0}
WentReading NeedsInput reading = Unit {0}
WentReading Over reading = Unit {0}
WentReading TooLong reading = reading.after ≡ Never
WentReading Short reading = Unit {0}

-- a session waits only for a send that it asks for
abbrev pub IsOfSession : Went → Type 0
IsOfSession (Asks server) = Unit {0}
IsOfSession On = Unit {0}
IsOfSession Waits = ⊥
IsOfSession NeedsInput = Unit {0}
IsOfSession Over = Unit {0}
IsOfSession TooLong = Unit {0}
IsOfSession Short = ⊥

-- how a session stands after a call that came to this: it awaits whom that asks, no request of it
-- was handed over, and after a line that was too long nothing is read
pub record StandsAfter (went : Went) (session : SessionState) : Type 0 where
  pub asks : awaited_in session.work ≡ server_asked_in went
  pub own : IsOwn session.work
  pub goes : IsOfSession went
  pub reading : WentReading went session.reading

-- how a client may stand after a call that came to this: where it asks or waits, a request is under
-- way; where it can go on, it can be called; else no request of it is being asked for
abbrev pub WentStands : Went → Answering → Type 0
WentStands (Asks server) it = awaited_by_client it ≢ []
WentStands On it = MayCallClient it
WentStands Waits it = awaited_by_client it ≢ []
WentStands NeedsInput it = IsClientIdle it
WentStands Over it = IsClientIdle it
WentStands TooLong it = IsClientIdle it
WentStands Short it = IsClientIdle it

-- a call that said that a request was read has it
abbrev pub BeganAt : Step → Work → Type 0
BeganAt step.Began at = IsSome (request_read_in at)
BeganAt (step.Asks clear) at = Unit {0}
BeganAt (step.Tried trail) at = Unit {0}
BeganAt (step.Refused fault) at = Unit {0}
BeganAt (step.At it) at = Unit {0}

-- what calls of sessions leave of the parts, so that each other session can go on
pub record HasStayed {H T C : Type 0} (servers : H → ℕ) (old new : Parts H (List ℕ) T C) : Type 0
  where
    pub config : new.config ≡ old.config
    pub health : servers new.backend.health ≡ servers old.backend.health
    pub links : length new.backend.links ≡ length old.backend.links

-- what a call leaves of its session and of the parts: it can be called again, and so can each other
-- session
pub record IsSessionLeft {H T C : Type 0} (servers : H → ℕ) (session : SessionState)
    (old new : Parts H (List ℕ) T C) : Type 0 where
  pub ready : IsSessionReady new.config session
  pub stays : HasStayed servers old new

-- a session at a moment, and the parts
abbrev pub AtOver : Type 0 → Type 0 → Type 0 → Type 0
AtOver H T C = SessionState × Parts H (List ℕ) T C

module _ {H T C : Type 0} (ghosts : PartsGhosts H (List ℕ) T C) where
  -- something could not be recorded after a call that said this
  pub record IsUnrecorded (said : Step) (old new : AtOver H T C) : Type 0 where
    pub some : IsToRecord said
    pub state : new.0 ≡ dropped old.0
    pub gains : Gains (Interacts ghosts) old.1 (left_after said) new.1

  -- the session went on once, after which its client stands so
  pub record IsStepped (phase : ClientPhase) (old new : AtOver H T C) : Type 0 where
    pub done : List Interaction
    pub call : IsSessionCall old.1.config old.0 done phase new.0
    pub gains : Gains (Interacts ghosts) old.1 done new.1

  -- memory ran out as it did, and it is at no request
  pub record IsLost (old new : AtOver H T C) : Type 0 where
    pub done : List Interaction
    pub loss : IsLoss old.1.config old.0 done new.0
    pub gains : Gains (Interacts ghosts) old.1 done new.1
    pub between : new.0.work ≡ Between

  -- the session took what came of its send, which was counted before
  pub record IsOutcomeTaken (outcome : Outcome) (phase : ClientPhase) (old new : AtOver H T C)
      : Type 0 where
    pub it : SentKey
    pub at : old.0.work ≡ Awaits it
    pub then : List Interaction
    pub call : IsSessionCall old.1.config old.0 (came_to it (Ok outcome) ∷ then) phase new.0
    pub gains : Gains (Interacts ghosts) old.1 then new.1

  -- memory ran out as it did, and it is at no request
  pub record IsLostTaking (outcome : Outcome) (old new : AtOver H T C) : Type 0 where
    pub it : SentKey
    pub at : old.0.work ≡ Awaits it
    pub then : List Interaction
    pub loss : IsLoss old.1.config old.0 (came_to it (Ok outcome) ∷ then) new.0
    pub gains : Gains (Interacts ghosts) old.1 then new.1
    pub between : new.0.work ≡ Between
