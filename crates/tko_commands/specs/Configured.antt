-- The configuration of a dry run, and why there is none.
use Rattle.std.specs.Prelude.{◌≡◌, ℕ, List, ◌++◌, map, codes, decimal, Option, Some, None, option_map, string_bytes}
use Rattle.tko_pools.specs.Configs.{Configuration, Means, Refuses, in_order, numbers_below}
use Rattle.tko_pools.specs.declared.fault.ConfigFault.{ConfigFault}
use Rattle.tko_commands.specs.declared.fault.Fault.{Fault}
use Rattle.tko_commands.specs.declared.fault.Fault.TheVariants as fault
use Rattle.tko_options.specs.declared.dry_options.DryOptions.{DryOptions}
use Rattle.tko_commands.specs.Faults.{fault_of_config}
use Rattle.tko_commands.specs.OutsideRanges.{IsFirstOutside}
use Rattle.tko_commands.specs.declared.outside_range.OutsideRange.{OutsideRange}
use Rattle.tko_options.specs.Trackers.{dry_settings}

-- the JSON of the configuration, if the options have one
abbrev pub json_in : DryOptions → Option (List ℕ)
json_in options = option_map string_bytes options.config

-- the names of `servers` servers that no configuration names
abbrev pub scripted_names : ℕ → List (List ℕ)
scripted_names servers = map (λ server. codes "dry:" ++ decimal server) (numbers_below servers)

-- the configuration of this JSON, or without one that of `servers` servers, which every key tries
-- in order
abbrev pub ConfigOf : Option (List ℕ) → ℕ → Configuration → Type 0
ConfigOf None servers config = config ≡ in_order (scripted_names servers)
ConfigOf (Some json) servers config = Means json config

-- the configuration that the options name
pub record IsConfigured (options : DryOptions) (config : Configuration) : Type 0 where
  pub named : ConfigOf (json_in options) options.servers config

-- the JSON is no configuration, for this reason
pub record IsFlawed (options : DryOptions) (cause : ConfigFault) : Type 0 where
  pub json : List ℕ
  pub given : json_in options ≡ Some json
  pub refuses : Refuses json cause
  pub reason : fault_of_config cause ≡ fault.Config cause

-- without a configuration, this setting is the first one outside its range
pub record IsUnset (options : DryOptions) (outside : OutsideRange) : Type 0 where
  pub alone : json_in options ≡ None
  pub first : IsFirstOutside (dry_settings options options.servers) outside

-- why the options name no configuration
abbrev pub NoConfig : DryOptions → Fault → Type 0
NoConfig options (fault.Config cause) = IsFlawed options cause
NoConfig options (fault.Settings outside) = IsUnset options outside
NoConfig options fault.Memory = Unit {0}
NoConfig options _ = ⊥
