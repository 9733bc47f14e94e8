-- Why the options of `serve` name nothing to run on.
use Rattle.std.proofs.Common.{length}
use Rattle.std.specs.Prelude.{string_bytes}
use Rattle.tko_pools.specs.Configs.{Configuration, Means}
use Rattle.tko_commands.specs.declared.fault.Fault.{Fault}
use Rattle.tko_commands.specs.declared.fault.Fault.TheVariants as fault
use Rattle.tko_options.specs.declared.serve_options.ServeOptions.{ServeOptions}
use Rattle.tko_commands.specs.Grouped.{NoSettings}
use Rattle.tko_cli.specs.Planned.{NoPlan}
use Rattle.tko_options.specs.Trackers.{serve_settings}

-- there are no settings
pub no_settings : (options : ServeOptions) (config : Configuration) (reason : Fault)
    → Means (string_bytes options.config) config
    → NoSettings (serve_settings options (length config.addresses)) reason → NoPlan options reason
no_settings options config (fault.Settings outside) means first =
    record { config = config; means = means; first = first }
no_settings options config fault.Memory means none = tt
no_settings options config fault.Read means none = absurd none
no_settings options config fault.Write means none = absurd none
no_settings options config fault.LineTooLong means none = absurd none
no_settings options config (fault.Config cause) means none = absurd none
no_settings options config fault.ConfigFile means none = absurd none
no_settings options config (fault.Against cause) means none = absurd none
no_settings options config (fault.KeysFile unread) means none = absurd none
no_settings options config (fault.Outcomes number) means none = absurd none
no_settings options config (fault.Line number) means none = absurd none
no_settings options config fault.Check means none = absurd none
no_settings options config (fault.Delays delays) means none = absurd none
no_settings options config (fault.Listen cause) means none = absurd none
no_settings options config (fault.Metrics cause) means none = absurd none
no_settings options config fault.Accept means none = absurd none
