-- The line that reports each fault, and which fault of the program each cause is.
use Rattle.std.specs.Prelude.{ℕ, List, ◌++◌, None, codes, decimal, string_bytes}
use Rattle.tko_model.specs.declared.plain.OpenFault.{OpenFault}
use Rattle.tko_model.specs.declared.plain.OpenFault.TheVariants as open_fault
use Rattle.tko_model.specs.declared.settings.SettingsFault.{SettingsFault}
use Rattle.tko_model.specs.declared.settings.SettingsFault.TheVariants as setting
use Rattle.tko_runs.specs.declared.checking.RunFault.{RunFault}
use Rattle.tko_runs.specs.declared.checking.RunFault.TheVariants as run_fault
use Rattle.tko_runs.specs.declared.schedule.fault.ScheduleFault.{ScheduleFault}
use Rattle.tko_runs.specs.declared.schedule.fault.ScheduleFault.TheVariants as schedule_fault
use Rattle.tko_session.specs.declared.fault.SessionFault.{SessionFault}
use Rattle.tko_session.specs.declared.fault.SessionFault.TheVariants as session_fault
use Rattle.tko_explain.specs.declared.keys_fault.KeysFault.{KeysFault}
use Rattle.tko_explain.specs.declared.keys_fault.KeysFault.TheVariants as keys_fault
use Rattle.tko_pools.specs.declared.fault.ConfigFault.{ConfigFault}
use Rattle.tko_pools.specs.declared.fault.ConfigFault.TheVariants as config_fault
use Rattle.tko_pools.specs.PoolKeys.{pool_key_word}
use Rattle.tko_commands.specs.declared.fault.Fault.{Fault}
use Rattle.tko_commands.specs.declared.fault.Fault.TheVariants as fault
use Rattle.tko_commands.specs.declared.listen_fault.ListenFault.{ListenFault}
use Rattle.tko_commands.specs.declared.listen_fault.ListenFault.TheVariants as listen_fault
use Rattle.tko_commands.specs.declared.outcomes.OutcomesFault.{OutcomesFault}
use Rattle.tko_commands.specs.declared.outcomes.OutcomesFault.TheVariants as outcomes_fault
use Rattle.tko_commands.specs.declared.outside_range.OutsideRange.{OutsideRange}
use Rattle.tko_commands.specs.declared.reading.InputFault.{InputFault}
use Rattle.tko_commands.specs.declared.reading.InputFault.TheVariants as read_fault

-- the word that names a setting
abbrev pub setting_name : SettingsFault → List ℕ
setting_name setting.Servers = codes "servers"
setting_name setting.Threads = codes "threads"
setting_name setting.Failures = codes "failures"
setting_name setting.Limit = codes "limit"
setting_name setting.Tries = codes "tries"
setting_name setting.Stamp = codes "stamp"
setting_name setting.Groups = codes "groups"

-- the word that names why a text is no configuration
abbrev pub config_name : ConfigFault → List ℕ
config_name config_fault.Json = codes "json"
config_name config_fault.NoPools = codes "no-pools"
config_name (config_fault.EmptyPool name) = codes "empty-pool"
config_name (config_fault.Address text) = codes "address"
config_name (config_fault.SoftLimit name) = codes "soft-limit"
config_name (config_fault.PoolKey key name) = pool_key_word key
config_name config_fault.Route = codes "route"
config_name (config_fault.NoSuchPool name) = codes "no-such-pool"
config_name config_fault.TooManyServers = codes "too-many-servers"
config_name config_fault.Memory = codes "memory"

-- why nothing can listen at an address, in words
abbrev pub listen_words : ListenFault → List ℕ
listen_words listen_fault.NoAddress = codes "no address <host>:<port>"
listen_words (listen_fault.System words) = string_bytes words

-- the line of a fault, without its LF
abbrev pub fault_line : Fault → List ℕ
fault_line fault.Read = codes "fault: read"
fault_line fault.Write = codes "fault: write"
fault_line fault.LineTooLong = codes "fault: line too long"
fault_line fault.Memory = codes "fault: memory"
fault_line (fault.Settings outside) = codes "fault: settings " ++ setting_name outside.setting
fault_line (fault.Config cause) = codes "fault: config " ++ config_name cause
fault_line (fault.Against cause) = codes "fault: against " ++ config_name cause
fault_line fault.ConfigFile = codes "fault: config file"
fault_line (fault.KeysFile unread) = codes "fault: keys file"
fault_line (fault.Outcomes number) = codes "fault: outcomes " ++ decimal number
fault_line (fault.Line number) = codes "fault: schedule line " ++ decimal number
fault_line fault.Check = codes "fault: check"
fault_line (fault.Delays delays) = codes "fault: delays"
fault_line (fault.Listen cause) = codes "fault: listen"
fault_line (fault.Metrics cause) = codes "fault: metrics"
fault_line fault.Accept = codes "fault: accept"

-- of the list of outcomes
abbrev pub fault_of_outcomes : OutcomesFault → Fault
fault_of_outcomes (outcomes_fault.Word number) = fault.Outcomes number
fault_of_outcomes outcomes_fault.Memory = fault.Memory

-- of a configuration
abbrev pub fault_of_config : ConfigFault → Fault
fault_of_config config_fault.Json = fault.Config config_fault.Json
fault_of_config config_fault.NoPools = fault.Config config_fault.NoPools
fault_of_config (config_fault.EmptyPool name) = fault.Config (config_fault.EmptyPool name)
fault_of_config (config_fault.Address text) = fault.Config (config_fault.Address text)
fault_of_config (config_fault.SoftLimit name) = fault.Config (config_fault.SoftLimit name)
fault_of_config (config_fault.PoolKey key name) = fault.Config (config_fault.PoolKey key name)
fault_of_config config_fault.Route = fault.Config config_fault.Route
fault_of_config (config_fault.NoSuchPool name) = fault.Config (config_fault.NoSuchPool name)
fault_of_config config_fault.TooManyServers = fault.Config config_fault.TooManyServers
fault_of_config config_fault.Memory = fault.Memory

-- of the configuration that keys are compared with
abbrev pub fault_of_other : ConfigFault → Fault
fault_of_other config_fault.Json = fault.Against config_fault.Json
fault_of_other config_fault.NoPools = fault.Against config_fault.NoPools
fault_of_other (config_fault.EmptyPool name) = fault.Against (config_fault.EmptyPool name)
fault_of_other (config_fault.Address text) = fault.Against (config_fault.Address text)
fault_of_other (config_fault.SoftLimit name) = fault.Against (config_fault.SoftLimit name)
fault_of_other (config_fault.PoolKey key name) = fault.Against (config_fault.PoolKey key name)
fault_of_other config_fault.Route = fault.Against config_fault.Route
fault_of_other (config_fault.NoSuchPool name) = fault.Against (config_fault.NoSuchPool name)
fault_of_other config_fault.TooManyServers = fault.Against config_fault.TooManyServers
fault_of_other config_fault.Memory = fault.Memory

-- of counting a list of keys
abbrev pub fault_of_keys : KeysFault → Fault
fault_of_keys (keys_fault.Config cause) = fault_of_config cause
fault_of_keys (keys_fault.Against cause) = fault_of_other cause

-- a setting outside its range that no option gives
abbrev pub without_option : SettingsFault → OutsideRange
without_option name = record { setting = name; option = None }

-- of a setting that no option gives
abbrev pub fault_of_setting : SettingsFault → Fault
fault_of_setting name = fault.Settings (without_option name)

-- of opening a tracker
abbrev pub fault_of_opening : OpenFault → Fault
fault_of_opening (open_fault.Settings name) = fault_of_setting name
fault_of_opening open_fault.Memory = fault.Memory

-- of a session
abbrev pub fault_of_session : SessionFault → Fault
fault_of_session session_fault.Read = fault.Read
fault_of_session (session_fault.Write count) = fault.Write
fault_of_session session_fault.LineTooLong = fault.LineTooLong
fault_of_session session_fault.Memory = fault.Memory

-- of reading a text
abbrev pub fault_of_reading : InputFault → Fault
fault_of_reading read_fault.Input = fault.Read
fault_of_reading read_fault.Memory = fault.Memory

-- of a schedule
abbrev pub fault_of_schedule : ScheduleFault → Fault
fault_of_schedule (schedule_fault.Line number) = fault.Line number
fault_of_schedule (schedule_fault.Settings name) = fault_of_setting name
fault_of_schedule schedule_fault.Memory = fault.Memory

-- of the check of a run
abbrev pub fault_of_run : RunFault → Fault
fault_of_run (run_fault.Step number) = fault.Check
fault_of_run (run_fault.Call number) = fault.Check
fault_of_run run_fault.Memory = fault.Memory
