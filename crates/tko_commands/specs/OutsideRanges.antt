-- Numbers of options outside their ranges, and the lines that say so.
use Rattle.std.specs.Prelude.{◌≡◌, ◌==◌, ℕ, List, ◌++◌, Option, Some, None, IsSomeAnd, codes, decimal, if◌then◌else◌}
use Rattle.tko_model.specs.Limits.{max_failures, max_limit, max_servers, max_threads, max_tries}
use Rattle.tko_model.specs.Ranges.{first_fault}
use Rattle.tko_model.specs.Settings.{in_one_group}
use Rattle.tko_model.specs.declared.layout.Layout.TheVariants as layout
use Rattle.tko_model.specs.declared.one_group.OneGroup.{OneGroup}
use Rattle.tko_model.specs.declared.settings.SettingsFault.{SettingsFault}
use Rattle.tko_model.specs.declared.settings.SettingsFault.TheVariants as setting
use Rattle.tko_commands.specs.Faults.{setting_name}
use Rattle.tko_commands.specs.declared.outside_range.OptionRange.{OptionRange}
use Rattle.tko_commands.specs.declared.outside_range.OutsideRange.{OutsideRange}
use Rattle.tko_commands.specs.declared.refused_delays.RefusedDelays.{RefusedDelays}

-- a number that an option gives, and its range
abbrev pub option_range : ℕ → ℕ → ℕ → Option OptionRange
option_range value least most = Some (record { value = value; least = least; most = most })

-- what these options give for a setting, where there is an option for it
abbrev pub option_of : OneGroup → SettingsFault → Option OptionRange
option_of options setting.Servers = option_range options.servers 1 max_servers
option_of options setting.Threads = option_range options.threads 1 (max_threads layout.Two)
option_of options setting.Failures = option_range options.failures 1 (max_failures layout.Two)
option_of options setting.Limit = option_range options.limit 0 max_limit
option_of options setting.Tries = option_range options.tries 1 max_tries
option_of options setting.Stamp = None
option_of options setting.Groups = None

-- a setting outside its range, with what these options give for it
abbrev pub outside_of : OneGroup → SettingsFault → OutsideRange
outside_of options name = record { setting = name; option = option_of options name }

-- of these options this is the first setting outside its range, with what they give for it
pub record IsFirstOutside (options : OneGroup) (outside : OutsideRange) : Type 0 where
  pub first : first_fault (in_one_group options) ≡ Some outside.setting
  pub given : outside.option ≡ option_of options outside.setting

-- the option of a setting's name, the number that it gives, and its range
abbrev pub range_line : SettingsFault → OptionRange → List ℕ
range_line name range =
    codes "settings: --" ++ setting_name name ++ codes " " ++ decimal range.value
    ++ codes ": from " ++ decimal range.least ++ codes " to " ++ decimal range.most ++ codes "\n"

-- an option gives a number outside its range
abbrev pub IsRangeReason : OutsideRange → List ℕ → Type 0
IsRangeReason outside line =
    IsSomeAnd outside.option (λ range. line ≡ range_line outside.setting range)

-- what the first delay of probes has to be, and is not
abbrev pub delays_rule : RefusedDelays → List ℕ
delays_rule delays =
    if delays.first == 0 then codes ": at least 1"
    else codes ": not above --greatest-delay " ++ decimal delays.greatest

-- the first delay, and what it has to be
abbrev pub delays_line : RefusedDelays → List ℕ
delays_line delays =
    codes "delays: --first-delay " ++ decimal delays.first ++ delays_rule delays ++ codes "\n"

-- delays of probes are refused
abbrev pub IsDelaysReason : RefusedDelays → List ℕ → Type 0
IsDelaysReason delays line = line ≡ delays_line delays
