-- A client of an event-driven worker: how it stands, and what each call of it is to its life.
use Rattle.std.specs.Prelude.{◌≡◌, ◌≢◌, ℕ, Bool, List, [], ◌∷◌, ◌++◌, Some, None, Result, flat_map}
use Rattle.std.specs.Prelude.{take}
use Rattle.tko_model.specs.Records.{Gains}
use Rattle.tko_links.specs.declared.links.ExchangeNoMemory.{ExchangeNoMemory}
use Rattle.tko_links.specs.declared.links.Outcome.{Outcome}
use Rattle.tko_pools.specs.Configs.{Configuration}
use Rattle.tko_reply.specs.Ghosts.{PartsGhosts}
use Rattle.tko_reply.specs.Interactions.{Interaction}
use Rattle.tko_reply.specs.Standing.{SentKey}
use Rattle.tko_reply.specs.declared.parts.Parts.{Parts}
use Rattle.tko_keys.specs.KeysState.{KeySend, KeysState}
use Rattle.tko_session.specs.Acts.{came_to}
use Rattle.tko_session.specs.Clients.{ClientPhase, ClientState, IsClient, Life, Open}
use Rattle.tko_session.specs.Clients.{Over as PhaseOver, Short as PhaseShort, life}
use Rattle.tko_session.specs.ManyClients.{ActsOn}
use Rattle.tko_session.specs.Outgoing.{outgoing}
use Rattle.tko_session.specs.Working as work
use Rattle.tko_text.specs.Reading.{Never, Reading}
use Rattle.tko_port.specs.Talks.{Dropped, Ended, Fed, NotFed, Sent, Talk, TalkItem, Took, Went}
use Rattle.tko_port.specs.declared.talking.SessionStage.{SessionStage}
use Rattle.tko_port.specs.declared.talking.SessionStage.TheVariants as stage
use Rattle.tko_client.specs.declared.answering.Answering.{Answering}
use Rattle.tko_client.specs.declared.client.ClientStanding.{ClientStanding}
use Rattle.tko_client.specs.declared.client.ClientStanding.TheVariants.{Ended as CourseEnded, Full}
use Rattle.tko_client.specs.declared.client.ClientStanding.TheVariants.{Going, NeedsInput, Over}
use Rattle.tko_client.specs.declared.client.ClientStanding.TheVariants.{Short, TooLong, Waits}
use Rattle.tko_client.specs.declared.client.EventClient.{EventClient}
use Rattle.tko_client.specs.Answerings.{HasFewReplies, IsAnsweringReady, IsClientIdle}
use Rattle.tko_client.specs.Answerings.{MayCallClient}
use Rattle.tko_client.specs.Answerings.{awaited_by_client, client_at, held_by_client}
use Rattle.tko_client.specs.Comings.{is_unsent, result_of}
use Rattle.tko_client.specs.Keys.{IsSendOf, came_by}
use Rattle.tko_client.specs.Shares.{ActsWithoutBytes, ClientOver, HasGone}

abbrev pub stage_of : ClientStanding → SessionStage
stage_of Going = stage.Going
stage_of Waits = stage.Waits
stage_of Full = stage.Full
stage_of NeedsInput = stage.NeedsInput
stage_of CourseEnded = stage.Over
stage_of Over = stage.Over
stage_of Short = stage.Over
stage_of TooLong = stage.TooLong

abbrev pub phase_at : ClientStanding → ClientPhase
phase_at Going = Open
phase_at Waits = Open
phase_at Full = Open
phase_at NeedsInput = Open
phase_at CourseEnded = Open
phase_at Over = PhaseOver
phase_at Short = PhaseShort
phase_at TooLong = PhaseOver

-- after a line that was too long nothing is read
abbrev pub CourseReading : ClientStanding → Reading → Type 0
CourseReading Going reading = Unit {0}
CourseReading Waits reading = Unit {0}
CourseReading Full reading = Unit {0}
CourseReading NeedsInput reading = Unit {0}
CourseReading CourseEnded reading = Unit {0}
CourseReading Over reading = Unit {0}
CourseReading TooLong reading = reading.after ≡ Never
CourseReading Short reading = Unit {0}

-- how a client stands: it can be called; or it waits, and a request is under way; else no request
-- of it is being asked for, and where it needs more input few of its replies wait
abbrev pub CourseStands : ClientStanding → Answering → Type 0
CourseStands Going it = MayCallClient it
CourseStands Waits it = awaited_by_client it ≢ []
CourseStands Full it = IsClientIdle it
CourseStands NeedsInput it = IsClientIdle it × HasFewReplies it
CourseStands CourseEnded it = IsClientIdle it
CourseStands Over it = IsClientIdle it
CourseStands TooLong it = IsClientIdle it
CourseStands Short it = IsClientIdle it

-- how a client stands that asks a server: it can be called, or it waits
abbrev pub IsAsked : ClientStanding → Answering → Type 0
IsAsked Going it = MayCallClient it
IsAsked Waits it = Unit {0}
IsAsked Full it = ⊥
IsAsked NeedsInput it = ⊥
IsAsked CourseEnded it = ⊥
IsAsked Over it = ⊥
IsAsked TooLong it = ⊥
IsAsked Short it = ⊥

-- how a client stands that took all of its input: its replies are to be written first, or it needs
-- more, and few of its replies wait if no request of it is being asked for
abbrev pub HasTakenInput : ClientStanding → Answering → Type 0
HasTakenInput Going it = ⊥
HasTakenInput Waits it = ⊥
HasTakenInput Full it = outgoing it.session ≢ []
HasTakenInput NeedsInput it = IsClientIdle it → HasFewReplies it
HasTakenInput CourseEnded it = ⊥
HasTakenInput Over it = ⊥
HasTakenInput TooLong it = ⊥
HasTakenInput Short it = ⊥

-- the client of a worker that this is
abbrev pub client_of : EventClient → ClientState
client_of it = client_at (phase_at it.course) it.answering

-- the servers that its requests are under way to, one for each of them
abbrev pub awaits : EventClient → List ℕ
awaits it = awaited_by_client it.answering

-- as its port sees it
abbrev pub talk_of : EventClient → Talk
talk_of it = record {
  stage = stage_of it.course;
  output = outgoing it.answering.session;
  answered = it.answering.session.requests;
  taken = it.taken;
  held = held_by_client it.answering;
}

module _ {H T C : Type 0} (ghosts : PartsGhosts H (List ℕ) T C) where
  -- an act in which this came of the session's send, which is out to this server, and then more was
  -- done
  pub record HasTakenSend (server : ℕ) (result : Result Outcome ExchangeNoMemory)
      (old new : ClientOver H T C) : Type 0 where
    pub it : SentKey
    pub at : old.0.session.work ≡ work.Awaits it
    pub to : it.awaited.server ≡ server
    pub then : List Interaction
    pub act : ActsWithoutBytes ghosts old.1.config old (came_to it result ∷ then) new

  -- acts of which the first is that this came of a request for keys that were handed over, for each
  -- of its keys, and then more was done: of the first that is under way to this server; or of the
  -- last, which was not sent
  pub record HasTakenKeys (unsent : Bool) (server : ℕ) (result : Result Outcome ExchangeNoMemory)
      (old new : ClientOver H T C) : Type 0 where
    pub keys : KeysState
    pub are : old.0.keys ≡ Some keys
    pub send : KeySend
    pub is : IsSendOf unsent server keys.sends send
    pub then : List Interaction
    pub calls : List (List Interaction)
    pub gains : Gains (ActsWithoutBytes ghosts old.1.config) old
        ((came_by result keys.slots send ++ then) ∷ calls) new

  pub data HasOutcomeTaken (unsent : Bool) (server : ℕ) (result : Result Outcome ExchangeNoMemory)
      (old new : ClientOver H T C) : Type 0 where
    by_session : old.0.keys ≡ None → HasTakenSend server result old new
        → HasOutcomeTaken unsent server result old new
    by_keys : HasTakenKeys unsent server result old new
        → HasOutcomeTaken unsent server result old new

  -- what is done with a client is acts of its life: its session makes calls, or calls are made for
  -- the keys of its request; memory runs out for it; bytes come, or there is no memory for them;
  -- they end; replies are written; or what came of its request is taken
  abbrev pub DoesAs : TalkItem → ClientOver H T C → ClientOver H T C → Type 0
  DoesAs (Went asked) old new = HasGone ghosts old new
  DoesAs Dropped old new = HasGone ghosts old new × (new.0.phase ≡ PhaseShort)
  DoesAs (Fed bytes) old new = ActsOn ghosts old.1.config old (life bytes [] []) new
  DoesAs NotFed old new = new ≡ old
  DoesAs Ended old new = new ≡ old
  DoesAs (Sent count) old new =
      ActsOn ghosts old.1.config old (life [] (take count old.0.session.outbox) []) new
  DoesAs (Took server came asked) old new =
      HasOutcomeTaken (is_unsent came) server (result_of came) old new

-- it can be called with this configuration; it stands as it says; and it is over for a line that
-- was too long only where nothing more is read
pub record IsReadyOver (config : Configuration) (it : EventClient) : Type 0 where
  pub answering : IsAnsweringReady config it.answering
  pub stands : CourseStands it.course it.answering
  pub reading : CourseReading it.course it.answering.session.reading

-- it can be called with this configuration, once these bytes came to it and these went from it: all
-- that was done with it is one session's life
pub record IsReadyAfter (config : Configuration) (came went : List ℕ) (it : EventClient) : Type 0
  where
    pub over : IsReadyOver config it
    pub done : List Interaction
    pub is : IsClient config (life came went done) (client_of it)

-- the bytes that a call takes from the client
abbrev pub bytes_in : TalkItem → List ℕ
bytes_in (Fed bytes) = bytes
bytes_in (Went asked) = []
bytes_in Dropped = []
bytes_in NotFed = []
bytes_in Ended = []
bytes_in (Sent count) = []
bytes_in (Took server came asked) = []

-- a client's own call, over the parts as they are then
pub record IsOwnTalk {H T C : Type 0} (ghosts : PartsGhosts H (List ℕ) T C) (config : Configuration)
    (old : ClientState) (item : TalkItem) (new : ClientState) : Type 0 where
  pub before : Parts H (List ℕ) T C
  pub after : Parts H (List ℕ) T C
  pub same : before.config ≡ config
  pub does : DoesAs ghosts item (old, before) (new, after)

-- a client has one session's life, in which these calls took what came
pub record HasLife (config : Configuration) (items : List TalkItem) (now : ClientState)
    : Type 0 where
  pub it : Life
  pub is : IsClient config it now
  pub bytes : it.bytes ≡ flat_map bytes_in items
