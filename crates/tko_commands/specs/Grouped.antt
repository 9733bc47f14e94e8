-- The settings of a tracker over the pools of a configuration.
use Rattle.tko_model.specs.Settings.{Settings, in_one_group}
use Rattle.tko_model.specs.declared.one_group.OneGroup.{OneGroup}
use Rattle.tko_pools.specs.Configs.{Configuration, limits_of}
use Rattle.tko_commands.specs.OutsideRanges.{IsFirstOutside}
use Rattle.tko_commands.specs.declared.fault.Fault.{Fault}
use Rattle.tko_commands.specs.declared.fault.Fault.TheVariants as fault

-- each server in its group, and each group with the limit of its pool, or else with the limit that
-- the options name
abbrev pub grouped : Configuration → OneGroup → Settings
grouped config options = record (in_one_group options) {
  limits = limits_of config options.limit;
  group_of = config.groups;
}

-- why there are no settings: an option is outside its range, or memory ran out
abbrev pub NoSettings : OneGroup → Fault → Type 0
NoSettings options (fault.Settings outside) = IsFirstOutside options outside
NoSettings options fault.Memory = Unit {0}
NoSettings options _ = ⊥
