-- When nothing can be done for a client before its next event, and what was done until then.
use Rattle.std.specs.Prelude.{◌≡◌, ◌≢◌, ℕ, false, List, [], Option, Some, None, IsSome}
use Rattle.tko_text.specs.declared.request.Request.{Request}
use Rattle.tko_mux.specs.Awaits.{IsAsking}
use Rattle.tko_port.specs.declared.settling.End.TheVariants.{Finished, LineTooLong, Memory, ReadFailed, WriteFailed}
use Rattle.tko_port.specs.declared.settling.Settled.{Settled}
use Rattle.tko_port.specs.declared.settling.Settled.TheVariants.{Asks, AsksMore, Ends, Rests, Spent}
use Rattle.tko_port.specs.declared.talking.SessionStage.{SessionStage}
use Rattle.tko_port.specs.declared.talking.SessionStage.TheVariants.{Full, Going, NeedsInput, Over, TooLong, Waits}
use Rattle.tko_port.specs.Ports.{PortState}
use Rattle.tko_port.specs.Talks.{Talk}

-- if replies wait, none can be written
abbrev pub CannotWrite : List ℕ → PortState → Type 0
CannotWrite output port = output ≢ [] → port.writable ≡ false

-- a session needs more input, and no reply that waits can be written
pub record IsToRead (talk : Talk) (port : PortState) : Type 0 where
  pub needs : talk.stage ≡ NeedsInput
  pub cannot : CannotWrite talk.output port

-- nothing can be done at this stage, where it awaits these servers: a request of it is under way,
-- and it waits for what comes of that; its replies must be written first, and cannot be; more is
-- needed and nothing can be read, and no reply can be written; or it is over but for replies that
-- cannot be written
abbrev pub RestsAt : SessionStage → List ℕ → List ℕ → PortState → Type 0
RestsAt Going awaited output port = ⊥
RestsAt Waits awaited output port = awaited ≢ []
RestsAt Full awaited output port = port.writable ≡ false
RestsAt NeedsInput awaited output port = (port.readable ≡ false) × CannotWrite output port
RestsAt Over awaited output port = (output ≢ []) × (port.writable ≡ false)
RestsAt TooLong awaited output port = (output ≢ []) × (port.writable ≡ false)

-- nothing can be done for a client before its next event, where it awaits these servers
abbrev pub AtRest : List ℕ → Talk → PortState → Type 0
AtRest awaited talk port = RestsAt talk.stage awaited talk.output port

-- the server that it asked
abbrev pub asked_as : Settled → Option ℕ
asked_as (Asks server) = Some server
asked_as (AsksMore server) = Some server
asked_as Rests = None
asked_as Spent = None
asked_as (Ends why) = None

-- where it asked a server, it has the request that is to be sent
abbrev pub HasAsked : Settled → Option Request → Type 0
HasAsked (Asks server) request = IsSome request
HasAsked (AsksMore server) request = IsSome request
HasAsked Rests request = Unit {0}
HasAsked Spent request = Unit {0}
HasAsked (Ends why) request = Unit {0}

-- what serving a client came to: it asks a server, and waits for that or for another; it asks one,
-- and more can be done; nothing can be done; more can be done, and is left for the next turn; or
-- its session ended, with all its replies written unless the connection failed or memory ran out
abbrev pub SettledAs : Settled → List ℕ → Talk → PortState → Type 0
SettledAs (Asks server) awaited talk port = (talk.stage ≡ Waits) × (awaited ≢ [])
SettledAs (AsksMore server) awaited talk port = Unit {0}
SettledAs Rests awaited talk port = AtRest awaited talk port
SettledAs Spent awaited talk port = Unit {0}
SettledAs (Ends Finished) awaited talk port = (talk.stage ≡ Over) × (talk.output ≡ [])
SettledAs (Ends LineTooLong) awaited talk port = (talk.stage ≡ TooLong) × (talk.output ≡ [])
SettledAs (Ends Memory) awaited talk port = Unit {0}
SettledAs (Ends ReadFailed) awaited talk port = Unit {0}
SettledAs (Ends WriteFailed) awaited talk port = Unit {0}

-- what serving a client came to that awaited these servers before: if it asks one, it awaits that
-- besides, and has the request that is to be sent
pub record SettledAsking (settled : Settled) (was awaited : List ℕ) (talk : Talk) (port : PortState)
    (asks_for : Option Request) : Type 0 where
  pub ends : SettledAs settled awaited talk port
  pub asks : IsAsking (asked_as settled) was awaited
  pub request : HasAsked settled asks_for

-- what serving a client came to that asked no server
pub record SettledAlone (settled : Settled) (awaited : List ℕ) (talk : Talk) (port : PortState)
    (asks_for : Option Request) : Type 0 where
  pub ends : SettledAs settled awaited talk port
  pub asks : asked_as settled ≡ None
  pub request : HasAsked settled asks_for
