-- A client gives up its place in the queue of a server, and goes on to its next target.
use Rattle.std.specs.Prelude.{◌≡◌, ℕ, Bool, true, false, List, Option, Some, None, slice_get}
use Rattle.tko_text.specs.declared.request.Request.{Request}
use Rattle.tko_pipe.specs.declared.fates.Fate.TheVariants.{Aborted}
use Rattle.tko_pipe.specs.declared.waiter.Asker.TheVariants.{Client as ByClient}
use Rattle.tko_pipe.specs.declared.waiter.Waiter.{Waiter}
use Rattle.tko_pipe.specs.Giving.{HasGivenUp, IsNextOverdue}
use Rattle.tko_pipe.specs.Pipes.{PipeState}
use Rattle.tko_roster.specs.Rosters.{IfHas, RosterState, session_at}
use Rattle.tko_mux.specs.declared.asking.Came.TheVariants.{Fate}
use Rattle.tko_mux.specs.declared.asking.Given.TheVariants.{Outcome}
use Rattle.tko_mux.specs.declared.client.Client.{Client}
use Rattle.tko_mux.specs.declared.mux.delivery.Delivery.{Delivery}
use Rattle.tko_mux.specs.declared.mux.delivery.Delivery.TheVariants.{Reached}
use Rattle.tko_mux.specs.declared.mux.delivery.Done.{Done}
use Rattle.tko_mux.specs.declared.mux.giving_up.Overdue.{Overdue}
use Rattle.tko_mux.specs.Asks.{AskingActs}
use Rattle.tko_mux.specs.Lines.{IsOnLive, LineState}
use Rattle.tko_mux.specs.Muxes.{IsMade, IsOnLine, MuxState, WaitsFor, line_at}

-- whether a session may go on to another target instead of its first request to a server
abbrev pub NextOf : Type 0 → Type 0
NextOf S = S → ℕ → Bool

-- the client of this number waits at this place
pub record WaitsAt (pipe : PipeState) (place number : ℕ) : Type 0 where
  pub waiter : Waiter
  pub here : slice_get pipe.waiters place ≡ Some waiter
  pub is_by : waiter.by ≡ ByClient number

-- the one that is next to give up on this connection at this moment did: the client of this number,
-- with this request
pub record GivesUp (now number : ℕ) (request : Request) (old new : PipeState) : Type 0 where
  pub place : ℕ
  pub next : IsNextOverdue old now place
  pub waits : WaitsAt old place number
  pub given : HasGivenUp old now place request new

-- this one is next to give up on a line at this moment, if its session has another target
pub record IsOverdueOn (line : LineState) (now : ℕ) (it : Overdue) : Type 0 where
  pub pipe : PipeState
  pub is_pipe : line.pipe ≡ Some pipe
  pub overdue : IsNextOverdue pipe now it.place
  pub waits : WaitsAt pipe it.place it.number

-- nobody is
abbrev pub NoneOverdueOn : LineState → ℕ → Type 0
NoneOverdueOn line now = (pipe : PipeState) (place : ℕ) → line.pipe ≡ Some pipe
    → IsNextOverdue pipe now place → ⊥

-- the session of this number has another target than this server
pub record HasAnother {S P : Type 0} (has_next : NextOf S) (roster : RosterState (Client S) P)
    (server number : ℕ) : Type 0 where
  pub client : Client S
  pub is_client : session_at roster.slots number ≡ Some client
  pub next : has_next client.session server ≡ true

-- it has none, if there is one
abbrev pub HasToWait : {S P : Type 0} → NextOf S → RosterState (Client S) P → ℕ → ℕ → Type 0
HasToWait has_next roster server number =
    IfHas roster.slots number (λ client. has_next client.session server ≡ false)

-- the client of this number, whose session has another target, gave up its place on a line at this
-- moment; its session has this request under way to that server
pub record GivesUpOn {S P : Type 0} (waits_for : WaitsFor S) (has_next : NextOf S)
    (roster : RosterState (Client S) P) (server now number : ℕ) (old new : LineState) : Type 0 where
  pub may : HasAnother has_next roster server number
  pub request : Request
  pub lent : waits_for may.client.session server ≡ Some request
  pub on : IsOnLive (λ was it. GivesUp now number request was it) old new

-- and its session took that as a request that was aborted
pub record HasOneGivenUp {S P I O : Type 0} (acts : AskingActs S P I O) (awaited : S → List ℕ)
    (asks_for : S → Option Request) (waits_for : WaitsFor S) (has_next : NextOf S)
    (old : MuxState S P) (server now due : ℕ) (delivery : Delivery O) (new : MuxState S P) : Type 0
  where
    pub number : ℕ
    pub done : Done O
    pub lines : List LineState
    pub on : IsOnLine
        (λ was it. GivesUpOn waits_for has_next old.roster server now number was it)
        old.lines server lines
    pub is : delivery ≡ Reached number done
    pub made : IsMade acts awaited asks_for (record old { lines = lines }) number
        (Outcome server (Fate Aborted)) due done new

-- nobody is to give up on a line at this moment: the one that is next to, if there is one, has no
-- other target
abbrev pub WaitOn : {S P : Type 0} → NextOf S → RosterState (Client S) P → ℕ → ℕ → LineState
    → Type 0
WaitOn has_next roster server now line = (pipe : PipeState) (place number : ℕ)
    → line.pipe ≡ Some pipe → IsNextOverdue pipe now place → WaitsAt pipe place number
    → HasToWait has_next roster server number

abbrev pub AllWaitOn : {S P : Type 0} → NextOf S → MuxState S P → ℕ → ℕ → Type 0
AllWaitOn has_next mux server now = (line : LineState) → line_at mux server ≡ Some line
    → WaitOn has_next mux.roster server now line

-- the next one gave up, or nobody is to
abbrev pub GiveUpEnds : {S P I O : Type 0} → AskingActs S P I O → (S → List ℕ)
    → (S → Option Request) → WaitsFor S → NextOf S → MuxState S P → ℕ → ℕ → ℕ
    → Option (Delivery O) → MuxState S P → Type 0
GiveUpEnds acts awaited asks_for waits_for has_next old server now due None new =
    (new ≡ old) × AllWaitOn has_next old server now
GiveUpEnds acts awaited asks_for waits_for has_next old server now due (Some delivery) new =
    HasOneGivenUp acts awaited asks_for waits_for has_next old server now due delivery new
