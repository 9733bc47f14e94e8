-- What is left of a server's tracker.
use Rattle.std.specs.Prelude.{◌≡◌, All, List, MatchOption, Result, Err}
use Rattle.tko_server.specs.declared.running.Ended.{Ended}
use Rattle.tko_server.specs.declared.running.Options.{Options}
use Rattle.tko_server.specs.declared.running.Ran.{Ran}
use Rattle.tko_server.specs.declared.run_fault.ServerRunFault.{ServerRunFault}
use Rattle.tko_server.specs.declared.run_fault.ServerRunFault.TheVariants as run
use Rattle.tko_server.specs.declared.tracked.Failed.{Failed}
use Rattle.tko_server.specs.Endings.{IsEnough}
use Rattle.tko_server.specs.Runs.{IsAfterOpening, tracker_settings}
use Rattle.tko_table.specs.Closing.{ClosedContents}
use Rattle.tko_tracker.specs.Closing.{HoldsEachOnce, IsFinal}
use Rattle.tko_tracker.specs.Seated.{IsOf, Seated, TrackerId}

-- the passes of all threads of this tracker came back, each once, and it was closed with them: its
-- servers are the replay of one history of exactly their calls' changes, no server is marked, and
-- no slot is taken
pub record IsClosed (tracker : TrackerId) (left : ClosedContents) : Type 0 where
  pub passes : List Seated
  pub own : All (IsOf tracker) passes
  pub whole : HoldsEachOnce tracker.settings.threads passes
  pub final : IsFinal tracker passes left

-- the workers had passes of this tracker, and ran on these options
pub record HasRun (options : Options) (tracker : TrackerId) (ran : Ran) : Type 0 where
  pub on_options : ran.options.value ≡ options
  pub over : ran.tracker.value ≡ tracker

-- a server ran on these options to its end over this tracker: as many connections were accepted as
-- they ask for, and the tracker was closed
pub record HasRunToEnd (options : Options) (tracker : TrackerId) (ended : Ended) : Type 0 where
  pub ran : HasRun options tracker ended.ran
  pub enough : IsEnough options.connections ended.accepted
  pub closed : IsClosed tracker ended.closed

-- a server ran on these options to its end: as many connections were accepted as they ask for; the
-- tracker that its workers had passes of has the settings of the options, and was closed
pub record HasServerEnded (options : Options) (ended : Ended) : Type 0 where
  pub on_options : ended.ran.options.value ≡ options
  pub enough : IsEnough options.connections ended.accepted
  pub same : ended.ran.tracker.value.settings ≡ tracker_settings options
  pub closed : IsClosed ended.ran.tracker.value ended.closed

-- the fault of a server whose tracker could not be closed: memory ran out, unless announcing failed
-- before
abbrev pub unclosed : {T : Type 0} → Result T ServerRunFault → ServerRunFault
unclosed (Err run.Announce) = run.Announce
unclosed _ = run.Memory

-- such a fault
abbrev pub IsUnclosed : ServerRunFault → Type 0
IsUnclosed (run.Settings fault) = ⊥
IsUnclosed run.Memory = Unit {0}
IsUnclosed run.Announce = Unit {0}
IsUnclosed run.Accept = ⊥

-- a run over this tracker failed after it was opened: the tracker was closed all the same, or a
-- pass did not come back, since memory ran out, maybe after announcing had failed
pub record HasRunFailed (tracker : TrackerId) (failed : Failed) : Type 0 where
  pub fault : IsAfterOpening failed.fault
  pub closed : MatchOption failed.closed (IsUnclosed failed.fault) (IsClosed tracker)
