-- How a session ends, and how the steps of its loop do: what holds for each result.
use Rattle.std.specs.Prelude.{◌≡◌, ◌≢◌, ◌<◌, ℕ, Bool, List, [], Result, Ok, Err}
use Rattle.tko_bytes.specs.Numbers.{capped}
use Rattle.tko_io.specs.Io.{Writes, WritesPart}
use Rattle.tko_io.specs.declared.io.Outlet.{Ghosts as OutletGhosts}
use Rattle.tko_session.specs.declared.fault.SessionFault.{SessionFault}
use Rattle.tko_session.specs.declared.fault.SessionFault.TheVariants.{Read, Write, LineTooLong, Memory}
use Rattle.tko_session.specs.declared.step.Progress.{Progress}
use Rattle.tko_session.specs.declared.step.Progress.TheVariants as progress
use Rattle.tko_session.specs.declared.step.Report.{Report}
use Rattle.tko_session.specs.Events.{idle_rounds}
use Rattle.tko_session.specs.SessionState.{piece_progress}
use Rattle.tko_session.specs.Served.{Context, Delivered, DeliveredPart, Delivering, DeliveryState, Served, Serving, StoppedByLine, StoppedByMemory, StoppedByRead, StoppedByWrite}

module _ {O : Type 0} (outlet : OutletGhosts O) where
  -- all of the text was written, and the writer did not fail
  pub record TextWritten (old : O × ℕ) (text : List ℕ) (new : O × ℕ) : Type 0 where
    pub all : Writes outlet.takes old text new
    pub calm : outlet.failures new.0 ≡ outlet.failures old.0

  -- the writer failed once the front of the text was written, and not all of it; the fault has the
  -- number of bytes of the session that were written
  pub record TextCut (old : O × ℕ) (text : List ℕ) (fault : SessionFault) (new : O × ℕ)
      : Type 0 where
    pub part : WritesPart outlet.takes old text new
    pub failed : outlet.failures old.0 < outlet.failures new.0
    pub counted : fault ≡ Write (capped new.1)

  -- how the writing of a text ends
  abbrev pub WriteEnds : O × ℕ → List ℕ → Result (Unit {0}) SessionFault → O × ℕ → Type 0
  WriteEnds old text (Ok done) new = TextWritten old text new
  WriteEnds old text (Err fault) new = TextCut old text fault new

module _ {O W : Type 0} (ghosts : Delivering O W) where
  -- everything was written, no round was run at an idle turn, and the writer did not fail
  pub record AllDelivered (progress : Progress) (old new : DeliveryState O W) : Type 0 where
    pub delivered : Delivered ghosts progress old new
    pub idle : idle_rounds delivered.events ≡ 0
    pub calm : ghosts.outlet.failures new.writer ≡ ghosts.outlet.failures old.writer

  -- memory ran out, the writer did not fail, and all replies were written
  pub record ShortOfMemory (old new : DeliveryState O W) : Type 0 where
    pub part : DeliveredPart ghosts 0 old new
    pub whole : part.unwritten ≡ []
    pub calm : ghosts.outlet.failures new.writer ≡ ghosts.outlet.failures old.writer

  -- the writer failed, after `count` bytes of the session, and some of the replies stay unwritten
  pub record WriterFailed (old : DeliveryState O W) (count : ℕ) (new : DeliveryState O W)
      : Type 0 where
    pub part : DeliveredPart ghosts 0 old new
    pub cut : part.unwritten ≢ []
    pub counted : count ≡ capped new.written
    pub failed : ghosts.outlet.failures old.writer < ghosts.outlet.failures new.writer

  -- why the delivery of some items stops
  abbrev pub DeliveryStops : DeliveryState O W → SessionFault → DeliveryState O W → Type 0
  DeliveryStops old Read new = ⊥
  DeliveryStops old (Write count) new = WriterFailed old count new
  DeliveryStops old LineTooLong new = ⊥
  DeliveryStops old Memory new = ShortOfMemory old new

  -- how the delivery of some items ends
  abbrev pub DeliveryEnds : DeliveryState O W → Result Progress SessionFault
      → DeliveryState O W → Type 0
  DeliveryEnds old (Ok progress) new = AllDelivered progress old new
  DeliveryEnds old (Err fault) new = DeliveryStops old fault new

  -- why the session stops at a piece
  abbrev pub PieceStops : DeliveryState O W → SessionFault → DeliveryState O W → Type 0
  PieceStops old Read new = ⊥
  PieceStops old (Write count) new = WriterFailed old count new
  PieceStops old LineTooLong new = AllDelivered progress.LineTooLong old new
  PieceStops old Memory new = ShortOfMemory old new

  -- how the delivery of all items of a piece ends, where `quit` ended the session or did not
  abbrev pub PieceEnds : DeliveryState O W → Result Bool SessionFault → DeliveryState O W → Type 0
  PieceEnds old (Ok quit) new = AllDelivered (piece_progress quit) old new
  PieceEnds old (Err fault) new = PieceStops old fault new

module _ {I O W : Type 0} (ghosts : Serving I O W) where
  -- neither end failed
  pub record IsCalm (old new : Context I O W) : Type 0 where
    pub reads : ghosts.inlet.failures new.reader ≡ ghosts.inlet.failures old.reader
    pub writes : ghosts.delivering.outlet.failures new.writer
        ≡ ghosts.delivering.outlet.failures old.writer

  -- why a session ends before its input does: an end that failed ends the session, and is the
  -- fault that it ends with
  abbrev pub SessionStops : Context I O W → SessionFault → Context I O W → Type 0
  SessionStops old Read new =
      StoppedByRead ghosts old new
      × (ghosts.inlet.failures old.reader < ghosts.inlet.failures new.reader)
  SessionStops old (Write count) new =
      StoppedByWrite ghosts old count new
      × (ghosts.delivering.outlet.failures old.writer
      < ghosts.delivering.outlet.failures new.writer)
  SessionStops old LineTooLong new = StoppedByLine ghosts old new × IsCalm old new
  SessionStops old Memory new = StoppedByMemory ghosts old new × IsCalm old new

  -- how a session ends
  abbrev pub SessionEnds : Context I O W → Result Report SessionFault → Context I O W → Type 0
  SessionEnds old (Ok report) new = Served ghosts old report new × IsCalm old new
  SessionEnds old (Err fault) new = SessionStops old fault new
