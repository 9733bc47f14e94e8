-- What a whole session did.
use Rattle.std.specs.Prelude.{◌≡◌, ◌≢◌, ℕ, ◌+◌, false, List, [], ◌++◌, Some, length}
use Rattle.tko_model.specs.Records.{Gains}
use Rattle.tko_text.specs.declared.item.Item.{Item}
use Rattle.tko_text.specs.declared.item.Item.TheVariants as item
use Rattle.tko_text.specs.declared.request.Request.{Request}
use Rattle.tko_text.specs.Reading.{Reading, Emits, Gives, NeedsMore, reading_start, fed}
use Rattle.tko_bytes.specs.Numbers.{capped}
use Rattle.tko_io.specs.Io.{Writes}
use Rattle.tko_io.specs.declared.io.Inlet.{Ghosts as InletGhosts}
use Rattle.tko_io.specs.declared.io.Outlet.{Ghosts as OutletGhosts}
use Rattle.tko_session.specs.declared.step.Progress.{Progress}
use Rattle.tko_session.specs.declared.step.Report.{Report}
use Rattle.tko_session.specs.Batches.{EndInBatch}
use Rattle.tko_session.specs.Events.{Effects, NoneShort, SessionEvent, RoundAfter, ShortAtMostLast, idle_rounds, owed_after, turns_of}
use Rattle.tko_prober.specs.Round.{Visit}
use Rattle.tko_session.specs.SessionState.{CountsRise, SessionState, Snapshot, StopPoint, LeadsByEvents, EndsWith, ContinuesAfterAll, InSession, ProgressIs, fresh_session, fed_state, line_too_long, quit, snapshot, items_of, replies_text, requests_in, stop_point}

-- what a session works on: its two ends, and the parts
pub record Context (I O W : Type 0) : Type 0 where
  pub reader : I
  pub writer : O
  pub parts : W

abbrev pub context : {I O W : Type 0} → I → O → W → Context I O W
context reader writer parts = record { reader = reader; writer = writer; parts = parts }

-- a session at a moment, the writer of its replies, and how many bytes were written to it
pub record DeliveryState (O W : Type 0) : Type 0 where
  pub session : Snapshot W
  pub writer : O
  pub written : ℕ

abbrev pub delivery : {O W : Type 0} → SessionState → W → O → ℕ → DeliveryState O W
delivery state parts writer written =
    record { session = snapshot state parts; writer = writer; written = written }

-- what the replies of a session go to, and what its events do to its parts
pub record Delivering (O W : Type 0) : Type 1 where
  pub outlet : OutletGhosts O
  pub effects : Effects W

abbrev pub delivering : {O W : Type 0} → OutletGhosts O → Effects W → Delivering O W
delivering outlet effects = record { outlet = outlet; effects = effects }

-- what the bytes of a session come from, and what it delivers
pub record Serving (I O W : Type 0) : Type 1 where
  pub inlet : InletGhosts I
  pub delivering : Delivering O W

abbrev pub serving : {I O W : Type 0} → InletGhosts I → OutletGhosts O → Effects W
    → Serving I O W
serving inlet outlet effects =
    record { inlet = inlet; delivering = delivering outlet effects }

-- how a session comes to its end without a fault, after these items, and how many bytes of an item
-- are then unfinished
pub data SessionEnding (is_ended : Type 0) (items : List Item) (left : Reading) (unfinished : ℕ)
    : Type 0 where
  at_end_of_input : is_ended → ContinuesAfterAll items → NeedsMore left
      → unfinished ≡ length left.unread → SessionEnding is_ended items left unfinished
  at_quit : EndsWith quit items → unfinished ≡ 0 → SessionEnding is_ended items left unfinished

-- what a session did after the last event, where it ended early: nothing, and memory ran out in no
-- round but the last event; or it ran out in none of them, the next item is a request that was cut
-- short because memory ran out, and its round was run
pub data EndsAt {W : Type 0} (effects : Effects W) (stop : StopPoint W) (after : W)
    : Type 0 where
  at_once : ShortAtMostLast stop.events → after ≡ stop.parts → EndsAt effects stop after
  after_cut : (it : Request) (to : Reading) (mid : W) (visits : List Visit)
      → NoneShort stop.events → ContinuesAfterAll (items_of (turns_of stop.events))
      → Emits stop.left (item.Request it) to → effects.cut it stop.parts mid
      → effects.step mid (RoundAfter visits) after → EndsAt effects stop after

module _ {I O W : Type 0} (ghosts : Serving I O W) where
  -- all that was read, each item of it and what became of it, the rounds, and all that was written:
  -- each request is followed by its round, there is a round for each idle turn of the reader, and
  -- memory ran out in none of them
  pub record Transcript (old new : Context I O W) : Type 0 where
    pub bytes : List ℕ
    pub events : List SessionEvent
    pub left : Reading
    pub input : ghosts.inlet.gives old.reader bytes new.reader
    pub items : Gives (fed reading_start bytes) (items_of (turns_of events)) left
    pub gains : Gains ghosts.delivering.effects.step old.parts events new.parts
    pub order : owed_after false events ≡ Some false
    pub idles : ghosts.inlet.idles new.reader ≡ ghosts.inlet.idles old.reader + idle_rounds events
    pub counts : CountsRise ghosts.delivering.effects old.parts events new.parts
    pub memory : NoneShort events
    pub output : ghosts.delivering.outlet.takes old.writer
        (replies_text (turns_of events)) new.writer

  -- everything was answered up to the end of the input, or to the `quit` that ended the session
  pub record Served (old : Context I O W) (report : Report) (new : Context I O W) : Type 0 where
    pub transcript : Transcript old new
    pub ending : SessionEnding (ghosts.inlet.is_ended new.reader)
        (items_of (turns_of transcript.events)) transcript.left report.unfinished
    pub requests : report.requests ≡ capped (requests_in (items_of (turns_of transcript.events)))

  -- the reader failed, and everything that was read was answered
  pub record StoppedByRead (old new : Context I O W) : Type 0 where
    pub transcript : Transcript old new
    pub goes_on : ContinuesAfterAll (items_of (turns_of transcript.events))
    pub open_end : NeedsMore transcript.left

  -- the last item that was read is a line too long, and everything was answered, that line too
  pub record StoppedByLine (old new : Context I O W) : Type 0 where
    pub transcript : Transcript old new
    pub ends : EndsWith line_too_long (items_of (turns_of transcript.events))
    pub open_end : NeedsMore transcript.left

  -- the first items that were read were answered, the rounds were run, the front of the text was
  -- written, and then at most one more request was begun
  pub record StoppedEarly (old new : Context I O W) : Type 0 where
    pub bytes : List ℕ
    pub events : List SessionEvent
    pub left : Reading
    pub reached : W
    pub input : ghosts.inlet.gives old.reader bytes new.reader
    pub items : Gives (fed reading_start bytes) (items_of (turns_of events)) left
    pub gains : Gains ghosts.delivering.effects.step old.parts events reached
    pub counts : CountsRise ghosts.delivering.effects old.parts events reached
    pub order : owed_after false events ≡ Some false
    pub idles : ghosts.inlet.idles new.reader ≡ ghosts.inlet.idles old.reader + idle_rounds events
    pub ends : EndsAt ghosts.delivering.effects (stop_point events left reached) new.parts
    pub in_session : InSession (items_of (turns_of events))
    pub front : List ℕ
    pub unwritten : List ℕ
    pub text : replies_text (turns_of events) ≡ front ++ unwritten
    pub output : ghosts.delivering.outlet.takes old.writer front new.writer
    pub batch : EndInBatch events front

  -- memory ran out, and all replies were written
  pub record StoppedByMemory (old new : Context I O W) : Type 0 where
    pub early : StoppedEarly old new
    pub whole : early.unwritten ≡ []

  -- the writer failed after `written` bytes, and some of the replies stayed unwritten
  pub record StoppedByWrite (old : Context I O W) (written : ℕ) (new : Context I O W) : Type 0 where
    pub early : StoppedEarly old new
    pub cut : early.unwritten ≢ []
    pub counted : written ≡ capped (length early.front)

module _ {O W : Type 0} (ghosts : Delivering O W) where
  -- events went from the one state to the other, all their text was written and counted, and no
  -- round is owed
  pub record Delivered (progress : Progress) (old new : DeliveryState O W) : Type 0 where
    pub events : List SessionEvent
    pub turned : LeadsByEvents ghosts.effects old.session events new.session
    pub output : Writes ghosts.outlet.takes (old.writer, old.written)
        (replies_text (turns_of events)) (new.writer, new.written)
    pub outbox : new.session.state.outbox ≡ []
    pub owes : new.session.state.owes ≡ false
    pub progress_is : ProgressIs progress (items_of (turns_of events)) new.session.state.reading

  -- there were events, `idles` of them rounds at idle turns, the front of their text was written
  -- and counted, and then at most one more request was begun
  pub record DeliveredPart (idles : ℕ) (old new : DeliveryState O W) : Type 0 where
    pub events : List SessionEvent
    pub left : Reading
    pub reached : W
    pub idle : idle_rounds events ≡ idles
    pub ends : EndsAt ghosts.effects (stop_point events left reached) new.session.parts
    pub gives : Gives old.session.state.reading (items_of (turns_of events)) left
    pub gains : Gains ghosts.effects.step old.session.parts events reached
    pub counts : CountsRise ghosts.effects old.session.parts events reached
    pub order : owed_after old.session.state.owes events ≡ Some false
    pub in_session : InSession (items_of (turns_of events))
    pub front : List ℕ
    pub unwritten : List ℕ
    pub text : replies_text (turns_of events) ≡ front ++ unwritten
    pub output : Writes ghosts.outlet.takes (old.writer, old.written) front
        (new.writer, new.written)
    pub batch : EndInBatch events front

-- what serving a client works with at a moment: its reader, and its session with the writer
pub record ServeState (I O W : Type 0) : Type 0 where
  pub reader : I
  pub delivery : DeliveryState O W

abbrev pub serve_state : {I O W : Type 0} → I → DeliveryState O W → ServeState I O W
serve_state reader at = record { reader = reader; delivery = at }

-- the bytes that were read from the beginning on, the events that answered them, and a round for
-- each idle turn
pub record ServedSoFar {I O W : Type 0} (ghosts : Serving I O W) (progress : Progress)
    (old : Context I O W) (new : ServeState I O W) : Type 0 where
  pub bytes : List ℕ
  pub input : ghosts.inlet.gives old.reader bytes new.reader
  pub delivered : Delivered ghosts.delivering progress
      (delivery (fed_state fresh_session bytes) old.parts old.writer 0) new.delivery
  pub idles : ghosts.inlet.idles new.reader
      ≡ ghosts.inlet.idles old.reader + idle_rounds delivered.events
