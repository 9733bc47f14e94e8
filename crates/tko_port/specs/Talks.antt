-- A client's session as its port sees it.
use Rattle.std.specs.Prelude.{◌≡◌, ◌≢◌, ℕ, ◌+◌, List, [], ◌++◌, Option, None, IfSome, IsSome}
use Rattle.std.specs.Prelude.{Result, Ok, Err, drop, length}
use Rattle.tko_bytes.specs.Numbers.{capped}
use Rattle.tko_text.specs.declared.request.Request.{Request}
use Rattle.tko_mux.specs.declared.asking.Came.{Came}
use Rattle.tko_mux.specs.Awaits.{IsAsking, IsTaking}
use Rattle.tko_port.specs.declared.talking.SessionStage.{SessionStage}
use Rattle.tko_port.specs.declared.talking.SessionStage.TheVariants.{Full, Going, NeedsInput, Over, TooLong, Waits}
use Rattle.tko_port.specs.declared.talking.Tally.{Tally}

-- how far it is; the replies that wait to be written; how many
-- of its requests were answered, and how many bytes of its replies were written; and how many are
-- held, of those that wait and of the one under way
pub record Talk : Type 0 where
  pub stage : SessionStage
  pub output : List ℕ
  pub answered : ℕ
  pub taken : ℕ
  pub held : ℕ

-- what is told of it
abbrev pub tally_of : Talk → Tally
tally_of talk = record {
  requests = talk.answered;
  taken = talk.taken;
  waiting = length talk.output;
  held = talk.held;
}

-- so many more bytes were written; the number stays at 2^64 - 1
abbrev pub taken_more : ℕ → ℕ → ℕ
taken_more taken count = capped (taken + count)

-- what is done with a session
pub data TalkItem : Type 0 where
  Went : (asked : Option ℕ) → TalkItem
  Dropped : TalkItem
  Fed : (bytes : List ℕ) → TalkItem
  NotFed : TalkItem
  Ended : TalkItem
  Sent : (count : ℕ) → TalkItem
  Took : (server : ℕ) (came : Came) (asked : Option ℕ) → TalkItem

-- what going on did to a session: it went on, and asks this server if it asks one; or its request
-- was dropped
abbrev pub went_as : {E : Type 0} → Result (Option ℕ) E → TalkItem
went_as (Ok asked) = Went asked
went_as (Err fault) = Dropped

-- what feeding it these bytes did
abbrev pub fed_as : {A E : Type 0} → List ℕ → Result A E → TalkItem
fed_as bytes (Ok done) = Fed bytes
fed_as bytes (Err fault) = NotFed

-- where its replies are to be written before it goes on, there are some
abbrev pub HasReplies : SessionStage → List ℕ → Type 0
HasReplies Full output = output ≢ []
HasReplies Going output = Unit {0}
HasReplies Waits output = Unit {0}
HasReplies NeedsInput output = Unit {0}
HasReplies Over output = Unit {0}
HasReplies TooLong output = Unit {0}

-- whom a session awaits at a stage: some server where nothing can be done before something comes
-- for one of its requests; any where it can go on; else none
abbrev pub AwaitsAt : SessionStage → List ℕ → Type 0
AwaitsAt Going awaited = Unit {0}
AwaitsAt Waits awaited = awaited ≢ []
AwaitsAt Full awaited = awaited ≡ []
AwaitsAt NeedsInput awaited = awaited ≡ []
AwaitsAt Over awaited = awaited ≡ []
AwaitsAt TooLong awaited = awaited ≡ []

-- a session went on, and asks this server if it asks one: it awaits that besides, as its stage
-- says, and has the request that is to be sent
pub record HasGoneOn (asked : Option ℕ) (was : List ℕ) (talk : Talk) (awaited : List ℕ)
    (asks_for : Option Request) : Type 0 where
  pub asks : IsAsking asked was awaited
  pub request : IfSome asked (λ server. IsSome asks_for)
  pub stage : AwaitsAt talk.stage awaited

-- whom it asks then; an `Err` asks nobody
abbrev pub GoesOnAs : {E : Type 0} → Result (Option ℕ) E → List ℕ → Talk → List ℕ → Option Request
    → Type 0
GoesOnAs (Ok asked) was talk awaited asks_for = HasGoneOn asked was talk awaited asks_for
GoesOnAs (Err fault) was talk awaited asks_for = IsAsking None was awaited

-- a session went on, which came to this: it asks and awaits as that says; no byte of its replies
-- counts as written by that; and it has replies where they are to be written first
pub record GoesOnWithReplies {E : Type 0} (result : Result (Option ℕ) E) (was : List ℕ)
    (old new : Talk) (awaited : List ℕ) (asks_for : Option Request) : Type 0 where
  pub asks : GoesOnAs result was new awaited asks_for
  pub taken : new.taken ≡ old.taken
  pub replies : HasReplies new.stage new.output

-- so many bytes at the front of a session's replies were written: they are dropped and counted, and
-- no request of it is under way
pub record SendsReplies (count : ℕ) (old new : Talk) (awaited : List ℕ) : Type 0 where
  pub output : new.output ≡ drop count old.output
  pub taken : new.taken ≡ taken_more old.taken count
  pub here : awaited ≡ []

-- no request of a session is under way after a call, and no byte of its replies counts as written
-- by that
pub record StaysIdle (old new : Talk) (awaited : List ℕ) : Type 0 where
  pub taken : new.taken ≡ old.taken
  pub here : awaited ≡ []

-- a session took what came of a request to this server: it awaits that once less, and the server
-- that it asks then once more, for which it has the request that is to be sent; and no byte of its
-- replies counts as written by that
pub record TakesWhatCame (server : ℕ) (came : Came) (asked : Option ℕ) (was : List ℕ)
    (old new : Talk) (awaited : List ℕ) (asks_for : Option Request) : Type 0 where
  pub asks : IsTaking server came asked was awaited
  pub request : IfSome asked (λ it. IsSome asks_for)
  pub taken : new.taken ≡ old.taken

-- how a session is between two calls: whom it awaits at its stage, and that it has replies where
-- they are to be written first
pub record IsAtStage (talk : Talk) (awaited : List ℕ) : Type 0 where
  pub stage : AwaitsAt talk.stage awaited
  pub replies : HasReplies talk.stage talk.output

-- when a session can be called over parts, once these bytes came to it and these went from it
abbrev pub Readiness : Type 0 → Type 0 → Type 1
Readiness P T = P → List ℕ → List ℕ → T → Type 0

-- a session can be called over parts, whatever came to it and went from it
pub record IsCallable {P T : Type 0} (ready : Readiness P T) (it : T × P) : Type 0 where
  pub came : List ℕ
  pub went : List ℕ
  pub is : ready it.1 came went it.0

-- the same of one that awaits no server: none of its requests is under way
pub record IsCallableIdle {P T : Type 0} (is_ready : Readiness P T) (it : T × P)
    (awaited : List ℕ) : Type 0 where
  pub ready : IsCallable is_ready it
  pub here : awaited ≡ []

-- a call after which a session is ready: no bytes came to it or went from it
abbrev pub StaysReady : {P T : Type 0} → Readiness P T → T × P → T × P → Type 0
StaysReady ready old new =
    (came went : List ℕ) → ready old.1 came went old.0 → ready new.1 came went new.0

-- the same, where these bytes came
abbrev pub GainsBytes : {P T : Type 0} → Readiness P T → List ℕ → T × P → T × P → Type 0
GainsBytes ready bytes old new =
    (came went : List ℕ) → ready old.1 came went old.0 → ready new.1 (came ++ bytes) went new.0

-- the same, where these went
abbrev pub SendsBytes : {P T : Type 0} → Readiness P T → List ℕ → T × P → T × P → Type 0
SendsBytes ready bytes old new =
    (came went : List ℕ) → ready old.1 came went old.0 → ready new.1 came (went ++ bytes) new.0

-- the same once it was to be fed these bytes: they came; or it was not fed, and none came
abbrev pub GainsAs : {P T A E : Type 0} → Readiness P T → List ℕ → Result A E → T × P → T × P
    → Type 0
GainsAs ready bytes (Ok done) old new = GainsBytes ready bytes old new
GainsAs ready bytes (Err fault) old new = StaysReady ready old new
