-- Schedules: a text of lines, with the settings of a tracker first, and then, line by line, what
-- its threads do.
use Rattle.std.specs.Prelude.{◌≡◌, ℕ, ◌+◌, ◌≤◌, nat_lt, if◌then◌else◌, List, length, drop, min, Option, Some, None, is_none, Result, Ok, Err}
use Rattle.std.specs.List.{filter_map, position_or_len}
use Rattle.tko_model.specs.declared.settings.SettingsFault.{SettingsFault}
use Rattle.tko_model.specs.Ranges.{IsWithin, first_fault_in}
use Rattle.tko_model.specs.Settings.{Settings}
use Rattle.tko_runs.specs.declared.version.Version.{Version}
use Rattle.tko_runs.specs.Versions.{header_lines, layout_of}
use Rattle.tko_runs.specs.declared.schedule.command.Command.{Command}
use Rattle.tko_runs.specs.declared.schedule.fault.ScheduleFault.{ScheduleFault}
use Rattle.tko_runs.specs.declared.schedule.fault.ScheduleFault.TheVariants as fault
use Rattle.tko_runs.specs.Limits.{max_bytes, max_commands}
use Rattle.tko_bytes.specs.Lines.{lines_of}
use Rattle.tko_runs.specs.ScheduleHeaders.{ScheduleHeader, header}
use Rattle.tko_runs.specs.ScheduleLines.{command_line}

-- the meaning of a schedule: its version, the settings of the tracker, and the commands in order
pub record Plan : Type 0 where
  pub version : Version
  pub settings : Settings
  pub commands : List Command

-- what holds of a schedule that was read
pub record IsPlan (plan : Plan) : Type 0 where
  pub settings : IsWithin (layout_of plan.version) plan.settings
  pub few : length plan.commands ≤ max_commands

-- The lines after the header.

-- the place of the first that is no command, or of the first of too many
abbrev pub bad_place : List (List ℕ) → ℕ
bad_place lines = min (position_or_len (λ line. is_none (command_line line)) lines) max_commands

-- the commands of these lines, which follow so many header lines, or the first bad line
unfoldable pub commands_of : ℕ → List (List ℕ) → Result (List Command) ScheduleFault
commands_of before lines =
    if nat_lt (bad_place lines) (length lines)
    then Err (fault.Line (bad_place lines + before + 1))
    else Ok (filter_map command_line lines)

-- The whole text.

-- settings outside their ranges give their first fault
abbrev pub plan_of : Option SettingsFault → ScheduleHeader → List Command
    → Result Plan ScheduleFault
plan_of (Some outside) head commands = Err (fault.Settings outside)
plan_of None head commands =
    Ok (record { version = head.version; settings = head.settings; commands = commands })

abbrev pub plan_behind : ScheduleHeader → Result (List Command) ScheduleFault
    → Result Plan ScheduleFault
plan_behind head (Err bad) = Err bad
plan_behind head (Ok commands) =
    plan_of (first_fault_in (layout_of head.version) head.settings) head commands

-- the lines are judged first, from the first to the last, and then the settings
abbrev pub plan_in : Result ScheduleHeader ScheduleFault → List (List ℕ) → Result Plan ScheduleFault
plan_in (Err bad) lines = Err bad
plan_in (Ok head) lines =
    let before = header_lines head.version in
    plan_behind head (commands_of before (drop before lines))

-- the meaning of a text, or why it is no schedule; a text that is too long has bad line 0
unfoldable pub reads : List ℕ → Result Plan ScheduleFault
reads text =
    if nat_lt max_bytes (length text)
    then Err (fault.Line 0)
    else plan_in (header (lines_of text)) (lines_of text)

-- the fault of what could not be read is exact; any call may instead fail with `Memory`
abbrev pub IsFault : {A : Type 0} → Result A ScheduleFault → ScheduleFault → Type 0
IsFault read (fault.Line number) = read ≡ Err (fault.Line number)
IsFault read (fault.Settings outside) = read ≡ Err (fault.Settings outside)
IsFault read fault.Memory = Unit {0}

abbrev pub IsTextFault : List ℕ → ScheduleFault → Type 0
IsTextFault text told = IsFault (reads text) told
