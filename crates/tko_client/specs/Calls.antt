-- One call of a client, over the parts that all clients of a worker share: of its session, or for
-- the keys of a request that was handed over.
use Rattle.std.specs.Prelude.{◌≡◌, ℕ, Bool, List, Option, None, Result, IfSome, IsSome}
use Rattle.tko_links.specs.declared.links.ExchangeNoMemory.{ExchangeNoMemory}
use Rattle.tko_links.specs.declared.links.Outcome.{Outcome}
use Rattle.tko_reply.specs.Ghosts.{PartsGhosts}
use Rattle.tko_reply.specs.declared.parts.Parts.{Parts}
use Rattle.tko_mux.specs.Awaits.{IsAsking}
use Rattle.tko_port.specs.Talks.{HasReplies}
use Rattle.tko_session.specs.Clients.{Open}
use Rattle.tko_session.specs.Outgoing.{outgoing}
use Rattle.tko_client.specs.declared.answering.Answering.{Answering}
use Rattle.tko_client.specs.declared.calls.Went.{Went}
use Rattle.tko_client.specs.Answerings.{IsAnsweringReady, asked_by, awaited_by_client, client_at}
use Rattle.tko_client.specs.declared.client.ClientStanding.{ClientStanding}
use Rattle.tko_client.specs.declared.client.ClientStanding.TheVariants.{Short as CourseShort}
use Rattle.tko_client.specs.Clients.{CourseReading, CourseStands, HasOutcomeTaken}
use Rattle.tko_client.specs.Clients.{phase_at, stage_of}
use Rattle.tko_client.specs.Keys.{TakesAt}
use Rattle.tko_client.specs.Steps.{HasStayed, WentReading, WentStands, phase_of, server_asked_in}
use Rattle.tko_client.specs.Shares.{HasCalled, HasGone}

-- what a client's requests are answered by, and the parts
abbrev pub AnsweringOver : Type 0 → Type 0 → Type 0 → Type 0
AnsweringOver H T C = Answering × Parts H (List ℕ) T C

module _ {H T C : Type 0} (ghosts : PartsGhosts H (List ℕ) T C) (servers : H → ℕ) where
  -- what a call that came to this leaves: whom it asks, how the client stands, and that it can be
  -- called, as all other clients can
  pub record IsLeftByCall (went : Went) (old new : AnsweringOver H T C) : Type 0 where
    pub request : IfSome (server_asked_in went) (λ server. IsSome (asked_by new.0))
    pub stands : WentStands went new.0
    pub reading : WentReading went new.0.session.reading
    pub ready : IsAnsweringReady new.1.config new.0
    pub stays : HasStayed servers old.1 new.1

  -- a call came to this
  pub record IsCalled (went : Went) (old new : AnsweringOver H T C) : Type 0 where
    pub gone : HasCalled ghosts (client_at Open old.0, old.1)
        (client_at (phase_of went) new.0, new.1)
    pub asks : IsAsking (server_asked_in went) (awaited_by_client old.0) (awaited_by_client new.0)
    pub left : IsLeftByCall went old new

  -- a client took what came of a request to this server, and its call ended so
  pub record IsTakenAs (unsent : Bool) (server : ℕ) (result : Result Outcome ExchangeNoMemory)
      (went : Went) (old new : AnsweringOver H T C) : Type 0 where
    pub taken : HasOutcomeTaken ghosts unsent server result (client_at Open old.0, old.1)
        (client_at (phase_of went) new.0, new.1)
    pub takes : TakesAt server (server_asked_in went) (awaited_by_client old.0)
        (awaited_by_client new.0)
    pub left : IsLeftByCall went old new

  -- what calls of a client leave once it stands so: the request that it asks to be sent, if it
  -- does, and that it can be called, as all other clients can
  pub record IsHaltLeft (course : ClientStanding) (asked : Option ℕ) (old new : AnsweringOver H T C)
      : Type 0 where
    pub request : IfSome asked (λ server. IsSome (asked_by new.0))
    pub short : course ≡ CourseShort → asked ≡ None
    pub stands : CourseStands course new.0
    pub reading : CourseReading course new.0.session.reading
    pub ready : IsAnsweringReady new.1.config new.0
    pub stays : HasStayed servers old.1 new.1

  -- a client went on, and stands so
  pub record IsHalted (course : ClientStanding) (asked : Option ℕ) (old new : AnsweringOver H T C)
      : Type 0 where
    pub gone : HasGone ghosts (client_at Open old.0, old.1)
        (client_at (phase_at course) new.0, new.1)
    pub asks : IsAsking asked (awaited_by_client old.0) (awaited_by_client new.0)
    pub replies : HasReplies (stage_of course) (outgoing new.0.session)
    pub left : IsHaltLeft course asked old new

  -- it took what came of a request to a server, and stands so
  pub record IsTakenTo (unsent : Bool) (server : ℕ) (result : Result Outcome ExchangeNoMemory)
      (course : ClientStanding) (asked : Option ℕ) (old new : AnsweringOver H T C) : Type 0 where
    pub taken : HasOutcomeTaken ghosts unsent server result (client_at Open old.0, old.1)
        (client_at (phase_at course) new.0, new.1)
    pub takes : TakesAt server asked (awaited_by_client old.0) (awaited_by_client new.0)
    pub left : IsHaltLeft course asked old new
