-- A session between two pieces, and the events that lead from one state to another.
use Rattle.std.specs.Prelude.{◌≡◌, ◌≢◌, ◌<◌, ◌≤◌, ℕ, ◌+◌, Bool, true, false, List, [], ◌∷◌, ◌++◌, All, length, map, count_by, flat_map, Some}
use Rattle.tko_model.specs.Records.{Gains}
use Rattle.tko_text.specs.declared.item.Item.{Item}
use Rattle.tko_text.specs.declared.item.Item.TheVariants as item
use Rattle.tko_text.specs.declared.fault.TextFault.{TextFault}
use Rattle.tko_text.specs.declared.fault.TextFault.TheVariants.{LineTooLong}
use Rattle.tko_text.specs.declared.request.Request.{Request}
use Rattle.tko_text.specs.declared.request.Request.TheVariants.{Quit}
use Rattle.tko_text.specs.Reading.{Reading, Never, Emits, Gives, NeedsMore, reading_start, fed}
use Rattle.tko_route.specs.declared.attempt.Attempt.{Attempt}
use Rattle.tko_reply.specs.declared.parts.Parts.{Parts}
use Rattle.tko_session.specs.declared.step.Progress.{Progress}
use Rattle.tko_session.specs.declared.step.Progress.TheVariants as progress
use Rattle.tko_session.specs.Working.{Work}
use Rattle.tko_session.specs.Working as work
use Rattle.tko_session.specs.Events.{Effects, NoneAtWork, NoneShort, SessionEvent, idle_rounds, owed_after, turns_of, visits_of}
use Rattle.tko_bytes.specs.Numbers.{capped}
use Rattle.tko_reply.specs.Replies.{RoutedKey, reply_bound, sends_to, trails_in}
use Rattle.tko_prober.specs.Round.{probes_in}
use Rattle.tko_reply.specs.Ghosts.{PartsGhosts}
use Rattle.tko_reply.specs.Interactions.{Performs}
use Rattle.tko_session.specs.Turns.{IsSessionTurn, SessionTurn, is_request}

-- how far the input was read, the replies that wait to be written, the number of requests, and
-- whether the round after the last request is still to be run; and, while a request is answered,
-- how far that came, where its reply begins, and the targets of its key
pub record SessionState : Type 0 where
  pub reading : Reading
  pub outbox : List ℕ
  pub requests : ℕ
  pub owes : Bool
  pub work : Work
  pub begin : ℕ
  pub targets : List ℕ

-- a session at a moment, and the parts that it works on
pub record Snapshot (W : Type 0) : Type 0 where
  pub state : SessionState
  pub parts : W

abbrev pub snapshot : {W : Type 0} → SessionState → W → Snapshot W
snapshot state parts = record { state = state; parts = parts }

-- a session that has read nothing
abbrev pub fresh_session : SessionState
fresh_session = record {
  reading = reading_start;
  outbox = [];
  requests = 0;
  owes = false;
  work = work.Between;
  begin = 0;
  targets = [];
}

-- the same after these bytes came
abbrev pub fed_state : SessionState → List ℕ → SessionState
fed_state old piece = record old { reading = fed old.reading piece }

-- the fault after which a session reads nothing more
abbrev pub line_too_long : Item
line_too_long = item.Fault LineTooLong

-- the request that ends a session
abbrev pub quit : Item
quit = item.Request Quit

abbrev pub items_of : List SessionTurn → List Item
items_of turns = map (λ turn. turn.item) turns

-- the replies, one after another
abbrev pub replies_text : List SessionTurn → List ℕ
replies_text turns = flat_map (λ turn. turn.text) turns

abbrev pub trails_of : List SessionTurn → List (List Attempt)
trails_of turns = flat_map (λ turn. trails_in turn.routed) turns

-- how many items are requests
abbrev pub requests_in : List Item → ℕ
requests_in items = count_by is_request items

-- the session goes on after an item
pub record Continues (it : Item) : Type 0 where
  pub read : it ≢ line_too_long
  pub asked : it ≢ quit

-- the session goes on after each of these items
abbrev pub ContinuesAfterAll : List Item → Type 0
ContinuesAfterAll items = All Continues items

-- the last item is this one, and the session goes on after each of the others
pub record EndsWith (last : Item) (items : List Item) : Type 0 where
  pub before : List Item
  pub parts : items ≡ before ++ last ∷ []
  pub goes_on : ContinuesAfterAll before

-- no item comes after one that ends the session
pub record InSession (items : List Item) : Type 0 where
  pub before : List Item
  pub last : List Item
  pub parts : items ≡ before ++ last
  pub goes_on : ContinuesAfterAll before
  pub one : length last ≤ 1

-- how a session stands after these items: there may be more, all that are decided were answered, or
-- the last one ended the session
abbrev pub ProgressIs : Progress → List Item → Reading → Type 0
ProgressIs progress.More items reading = ContinuesAfterAll items
ProgressIs progress.NeedsInput items reading = ContinuesAfterAll items × NeedsMore reading
ProgressIs progress.LineTooLong items reading =
    EndsWith line_too_long items × (reading.after ≡ Never)
ProgressIs progress.Quit items reading = EndsWith quit items

-- how a session stands after the reply to a fault
abbrev pub progress_after : TextFault → Progress
progress_after LineTooLong = progress.LineTooLong
progress_after _ = progress.More

-- after `waiting` bytes, each of these turns begins while fewer bytes than the bound wait
abbrev pub BeginBelowBound : ℕ → List SessionTurn → Type 0
BeginBelowBound waiting [] = Unit {0}
BeginBelowBound waiting (turn ∷ turns) =
    (waiting < reply_bound) × BeginBelowBound (waiting + length turn.text) turns

-- the progress after the reply to a request
abbrev pub progress_of : Request → Progress
progress_of Quit = progress.Quit
progress_of _ = progress.More

-- the progress after all items of a piece, where `quit` ended the session or did not
abbrev pub piece_progress : Bool → Progress
piece_progress true = progress.Quit
piece_progress false = progress.NeedsInput

-- how often each server was sent to
abbrev pub sent_by : {H L T C : Type 0} → (L → ℕ → ℕ) → Parts H L T C → ℕ → ℕ
sent_by sent parts server = sent parts.backend.links server

-- how often each server was probed
abbrev pub probe_counts : {H L T C : Type 0} → (L → ℕ → ℕ) → Parts H L T C → ℕ → ℕ
probe_counts probed parts server = probed parts.backend.links server

-- a request was recorded and answered: one more, its reply is at the end of the outbox, and its
-- round is owed
pub record Replied {H L T C : Type 0} (ghosts : PartsGhosts H L T C)
    (old : Snapshot (Parts H L T C)) (request : Request) (new : Snapshot (Parts H L T C))
    : Type 0 where
  pub routed : List RoutedKey
  pub text : List ℕ
  pub becomes : Performs ghosts (λ config. IsSessionTurn config
      (record { item = item.Request request; routed = routed; text = text })) old.parts new.parts
  pub reading : new.state.reading ≡ old.state.reading
  pub outbox : new.state.outbox ≡ old.state.outbox ++ text
  pub requests : capped new.state.requests ≡ capped (old.state.requests + 1)
  pub owes : new.state.owes ≡ true

-- where answering stops: after these events, with this left to read, and with these parts
pub record StopPoint (W : Type 0) : Type 0 where
  pub events : List SessionEvent
  pub left : Reading
  pub parts : W

abbrev pub stop_point : {W : Type 0} → List SessionEvent → Reading → W → StopPoint W
stop_point events left parts = record { events = events; left = left; parts = parts }

-- what was done after the last of these events where memory ran out: nothing; or the next item is a
-- request that was cut short, and its round is owed
pub data IsBehind {W : Type 0} (cut : Request → W → W → Type 0) (stop : StopPoint W)
    (new : Snapshot W) : Type 0 where
  no_more : new.parts ≡ stop.parts → new.state.owes ≡ false → IsBehind cut stop new
  cut_short : (it : Request) (to : Reading) → ContinuesAfterAll (items_of (turns_of stop.events))
      → Emits stop.left (item.Request it) to → cut it stop.parts new.parts
      → new.state.owes ≡ true → IsBehind cut stop new

module _ {W : Type 0} (effects : Effects W) where
  -- the counts of sends rose by the sends in the trails of these events, the counts of probes by
  -- the probes in their rounds, and by nothing else
  pub record CountsRise (old : W) (events : List SessionEvent) (new : W) : Type 0 where
    pub sends : (server : ℕ) → effects.sent new server
        ≡ effects.sent old server + sends_to server (trails_of (turns_of events))
    pub probes : (server : ℕ) → effects.probed new server
        ≡ effects.probed old server + probes_in server (visits_of events)

  -- these events lead from the one state to the other, and change what they work on
  pub record LeadsByEvents (old : Snapshot W) (events : List SessionEvent) (new : Snapshot W)
      : Type 0 where
    pub gives : Gives old.state.reading (items_of (turns_of events)) new.state.reading
    pub gains : Gains effects.step old.parts events new.parts
    pub order : owed_after old.state.owes events ≡ Some new.state.owes
    pub counts : CountsRise old.parts events new.parts
    pub memory : NoneShort events
    pub requests : capped new.state.requests
        ≡ capped (old.state.requests + requests_in (items_of (turns_of events)))

  -- some events did, none of them at an idle turn, and the text of the replies was added to the
  -- outbox, each while there was room; no prober was at work in a round, so that no reply waits for
  -- one that takes long
  pub record HasAnswered (progress : Progress) (old new : Snapshot W) : Type 0 where
    pub events : List SessionEvent
    pub turned : LeadsByEvents old events new
    pub idles : idle_rounds events ≡ 0
    pub outbox : new.state.outbox ≡ old.state.outbox ++ replies_text (turns_of events)
    pub begin : BeginBelowBound (length old.state.outbox) (turns_of events)
    pub at_once : NoneAtWork events
    pub progress_is : ProgressIs progress (items_of (turns_of events)) new.state.reading

  -- memory ran out after such events
  pub record AnsweredPart (old new : Snapshot W) : Type 0 where
    pub events : List SessionEvent
    pub left : Reading
    pub reached : W
    pub gives : Gives old.state.reading (items_of (turns_of events)) left
    pub gains : Gains effects.step old.parts events reached
    pub counts : CountsRise old.parts events reached
    pub order : owed_after old.state.owes events ≡ Some false
    pub idles : idle_rounds events ≡ 0
    pub in_session : InSession (items_of (turns_of events))
    pub outbox : new.state.outbox ≡ old.state.outbox ++ replies_text (turns_of events)
    pub begin : BeginBelowBound (length old.state.outbox) (turns_of events)
    pub at_once : NoneAtWork events
    pub behind : IsBehind effects.cut (stop_point events left reached) new
