-- What a replay reads and writes, and why it fails.
use Rattle.std.specs.Prelude.{◌≡◌, ◌<◌, ◌+◌, ℕ, List, None, Ok, Err}
use Rattle.tko_commands.specs.declared.fault.Fault.{Fault}
use Rattle.tko_commands.specs.declared.fault.Fault.TheVariants as fault
use Rattle.tko_runs.specs.declared.schedule.fault.ScheduleFault.{ScheduleFault}
use Rattle.tko_runs.specs.declared.schedule.fault.ScheduleFault.TheVariants as schedule_fault
use Rattle.tko_runs.specs.declared.checking.order.Point.{Point}
use Rattle.tko_runs.specs.Limits.{max_bytes}
use Rattle.tko_runs.specs.Orders.{IsOrderOf}
use Rattle.tko_runs.specs.Plays.{named_by}
use Rattle.tko_runs.specs.Prints.{run_text}
use Rattle.tko_runs.specs.Schedules.{Plan, reads}
use Rattle.tko_commands.specs.Readings.{IsText}

-- one byte more than a schedule may have
abbrev pub most_read : ℕ
most_read = max_bytes + 1

-- a text is a schedule, and this is printed of the run that it names, with where each of its calls
-- takes effect
pub record IsPrintedReplay (text printed : List ℕ) : Type 0 where
  pub plan : Plan
  pub order : List Point
  pub schedule : reads text ≡ Ok plan
  pub legal : IsOrderOf (named_by plan) order
  pub prints : printed ≡ run_text (named_by plan) order

-- a schedule was read, to the end of the input, and what is printed of its run went out
pub record ReplaysSchedule {I O : Type 0} (gives : I → List ℕ → I → Type 0) (is_ended : I → Type 0)
    (takes : O → List ℕ → O → Type 0) (old : I) (from : O) (new : I) (to : O) : Type 0 where
  pub text : List ℕ
  pub printed : List ℕ
  pub came : gives old text new
  pub ended : is_ended new
  pub replay : IsPrintedReplay text printed
  pub went : takes from printed to

-- the text that was read, all of the input or one byte more than a schedule may have, is no
-- schedule for this reason
pub record IsNoSchedule {I : Type 0} (gives : I → List ℕ → I → Type 0) (is_ended : I → Type 0)
    (old new : I) (reason : ScheduleFault) : Type 0 where
  pub text : List ℕ
  pub read : IsText gives is_ended most_read old new text
  pub refused : reads text ≡ Err reason

module _ {I O : Type 0} (gives : I → List ℕ → I → Type 0) (is_ended : I → Type 0)
    (read_failures : I → ℕ) (write_failures : O → ℕ) where
  -- why a replay fails: the text is no schedule, of which no option gives a setting, an end failed,
  -- or memory ran out; a run that was played is never refused, and nothing went out but where
  -- writing failed
  abbrev pub ReplayFails : I → I → O → O → Fault → Type 0
  ReplayFails old new from to (fault.Line number) =
      IsNoSchedule gives is_ended old new (schedule_fault.Line number) × (to ≡ from)
  ReplayFails old new from to (fault.Settings outside) =
      IsNoSchedule gives is_ended old new (schedule_fault.Settings outside.setting)
      × (outside.option ≡ None) × (to ≡ from)
  ReplayFails old new from to fault.Read = (read_failures old < read_failures new) × (to ≡ from)
  ReplayFails old new from to fault.Write = write_failures from < write_failures to
  ReplayFails old new from to fault.Memory = to ≡ from
  ReplayFails old new from to fault.Check = ⊥
  ReplayFails old new from to fault.LineTooLong = ⊥
  ReplayFails old new from to (fault.Outcomes number) = ⊥
  ReplayFails old new from to (fault.Config cause) = ⊥
  ReplayFails old new from to fault.ConfigFile = ⊥
  ReplayFails old new from to (fault.Against cause) = ⊥
  ReplayFails old new from to (fault.KeysFile unread) = ⊥
  ReplayFails old new from to (fault.Delays delays) = ⊥
  ReplayFails old new from to (fault.Listen cause) = ⊥
  ReplayFails old new from to (fault.Metrics cause) = ⊥
  ReplayFails old new from to fault.Accept = ⊥
