-- The header of a schedule: its version, and the settings of the tracker, a line for each.
use Rattle.std.specs.Prelude.{ℕ, if◌then◌else◌, List, [], ◌∷◌, drop, min, slice_index_or, codes, Option, Some, None, Result, Ok, Err}
use Rattle.std.specs.Option.{option_map, option_and_then}
use Rattle.std.specs.Str.{bytes_eq}
use Rattle.tko_model.specs.Settings.{Settings, in_one_group}
use Rattle.tko_runs.specs.declared.schedule.header.HeaderSettings.{HeaderSettings}
use Rattle.tko_runs.specs.declared.version.Version.{Version}
use Rattle.tko_runs.specs.declared.version.Version.TheVariants.{One, Two, Three}
use Rattle.tko_runs.specs.declared.schedule.fault.ScheduleFault.{ScheduleFault}
use Rattle.tko_runs.specs.declared.schedule.fault.ScheduleFault.TheVariants as fault
use Rattle.tko_runs.specs.Limits.{max_field}
use Rattle.tko_bytes.specs.Fields.{fields_of}
use Rattle.tko_runs.specs.ScheduleLines.{number_written}

-- what a setting's field of 32 bits holds of a number: one that is too large for it counts as the
-- largest that it holds, which is outside every range
abbrev pub in_field : ℕ → ℕ
in_field number = min number max_field

-- the version that the first line names, which is spelt out
abbrev pub version_in : List ℕ → Option Version
version_in line =
    if bytes_eq line (codes "schedule 1") then Some One
    else (if bytes_eq line (codes "schedule 2") then Some Two
    else (if bytes_eq line (codes "schedule 3") then Some Three else None))

-- the number of a header line of this name: `<name> <number>`
abbrev pub numbered_line : List ℕ → List (List ℕ) → Option ℕ
numbered_line name [] = None
numbered_line name (word ∷ []) = None
numbered_line name (word ∷ number ∷ []) = if bytes_eq word name then number_written number else None
numbered_line name (word ∷ number ∷ other ∷ others) = None

abbrev pub header_number : List ℕ → List ℕ → Option ℕ
header_number name line = numbered_line name (fields_of line)

-- the numbers that words write, as fields hold them, where each word writes one
abbrev pub values_of : List (List ℕ) → Option (List ℕ)
values_of [] = Some []
values_of (word ∷ words) =
    option_and_then
    (λ value. option_map (λ others. in_field value ∷ others) (values_of words))
    (number_written word)

-- the numbers of a header line of this name, one or more: `<name> <number> <number> ..`
abbrev pub listed : List ℕ → List (List ℕ) → Option (List ℕ)
listed name [] = None
listed name (word ∷ []) = None
listed name (word ∷ number ∷ others) =
    if bytes_eq word name then values_of (number ∷ others) else None

abbrev pub header_numbers : List ℕ → List ℕ → Option (List ℕ)
header_numbers name line = listed name (fields_of line)

-- a missing line reads as an empty one, which has no form
abbrev pub schedule_line_at : List (List ℕ) → ℕ → List ℕ
schedule_line_at lines place = slice_index_or lines place []

-- what follows from the line of this number, counted from 1, where it has its form
abbrev pub on_line : {A B : Type 0} →
    ℕ → Option A → (A → Result B ScheduleFault) → Result B ScheduleFault
on_line number None next = Err (fault.Line number)
on_line number (Some value) next = next value

-- what follows from some lines, where they have their forms
abbrev pub on_lines : {A B : Type 0} →
    Result A ScheduleFault → (A → Result B ScheduleFault) → Result B ScheduleFault
on_lines (Err bad) next = Err bad
on_lines (Ok value) next = next value

-- the lines that each version has after the first: how many servers, threads and failures
unfoldable pub counts_in : List (List ℕ) → Result HeaderSettings ScheduleFault
counts_in lines =
    on_line 2 (header_number (codes "servers") (schedule_line_at lines 0)) (λ servers.
    on_line 3 (header_number (codes "threads") (schedule_line_at lines 1)) (λ threads.
    on_line 4 (header_number (codes "failures") (schedule_line_at lines 2)) (λ failures.
    Ok (record {
      servers = in_field servers;
      threads = in_field threads;
      failures = in_field failures;
    }))))

-- the lines after those, where all servers are in one group
unfoldable pub one_group_in : HeaderSettings → List (List ℕ) → Result Settings ScheduleFault
one_group_in counts lines =
    on_line 5 (header_number (codes "limit") (schedule_line_at lines 0)) (λ limit.
    on_line 6 (header_number (codes "tries") (schedule_line_at lines 1)) (λ tries.
    on_line 7 (header_number (codes "stamp") (schedule_line_at lines 2)) (λ stamp.
    Ok (in_one_group (record {
      servers = counts.servers;
      threads = counts.threads;
      failures = counts.failures;
      limit = in_field limit;
      tries = in_field tries;
      opening_stamp = stamp;
    })))))

-- the settings with these limits and groups
abbrev pub with_groups : HeaderSettings → List ℕ → List ℕ → ℕ → ℕ → Settings
with_groups counts limits groups tries stamp =
    record {
      servers = counts.servers;
      threads = counts.threads;
      failures = counts.failures;
      limits = limits;
      group_of = groups;
      tries = tries;
      opening_stamp = stamp;
    }

-- the same lines, where each group has a limit and each server a group
unfoldable pub several_groups_in : HeaderSettings → List (List ℕ) → Result Settings ScheduleFault
several_groups_in counts lines =
    on_line 5 (header_numbers (codes "limits") (schedule_line_at lines 0)) (λ limits.
    on_line 6 (header_numbers (codes "groups") (schedule_line_at lines 1)) (λ groups.
    on_line 7 (header_number (codes "tries") (schedule_line_at lines 2)) (λ tries.
    on_line 8 (header_number (codes "stamp") (schedule_line_at lines 3)) (λ stamp.
    Ok (with_groups counts limits groups (in_field tries) stamp)))))

abbrev pub settings_in : Version → HeaderSettings → List (List ℕ) → Result Settings ScheduleFault
settings_in One counts lines = one_group_in counts lines
settings_in Two counts lines = several_groups_in counts lines
settings_in Three counts lines = several_groups_in counts lines

pub record ScheduleHeader : Type 0 where
  pub version : Version
  pub settings : Settings

-- the version and the settings of the header lines, or the first that is bad or missing
unfoldable pub header : List (List ℕ) → Result ScheduleHeader ScheduleFault
header lines =
    on_line 1 (version_in (schedule_line_at lines 0)) (λ version.
    on_lines (counts_in (drop 1 lines)) (λ counts.
    on_lines (settings_in version counts (drop 4 lines)) (λ settings.
    Ok (record { version = version; settings = settings }))))
