-- What `serve` runs on, and why its options name none of it.
use Rattle.std.specs.Prelude.{◌≡◌, ℕ, Bool, List, length, true, false, Option, None, Some, option_map, string_bytes}
use Rattle.tko_model.specs.Ranges.{IsWithinRanges}
use Rattle.tko_model.specs.Settings.{Settings, in_one_group}
use Rattle.tko_pools.specs.Addresses.{is_address}
use Rattle.tko_pools.specs.Configs.{Configuration, Means, Refuses}
use Rattle.tko_pools.specs.declared.fault.ConfigFault.{ConfigFault}
use Rattle.tko_prober.specs.Delay.{IsRange}
use Rattle.tko_keys.specs.declared.plan.Grouping.{Grouping}
use Rattle.tko_keys.specs.declared.plan.Grouping.TheVariants.{ByKey, ByServer}
use Rattle.tko_keys.specs.declared.plan.KeyPlan.{KeyPlan}
use Rattle.tko_threads.specs.declared.patience.Patience.{Patience}
use Rattle.tko_server.specs.declared.running.Options.{Options as Server}
use Rattle.tko_options.specs.Trackers.{serve_settings}
use Rattle.tko_commands.specs.Faults.{fault_of_config}
use Rattle.tko_commands.specs.Grouped.{grouped}
use Rattle.tko_commands.specs.OutsideRanges.{IsFirstOutside}
use Rattle.tko_commands.specs.declared.fault.Fault.{Fault}
use Rattle.tko_commands.specs.declared.fault.Fault.TheVariants as fault
use Rattle.tko_commands.specs.declared.listen_fault.ListenFault.TheVariants as listen_fault
use Rattle.tko_commands.specs.declared.outside_range.OutsideRange.{OutsideRange}
use Rattle.tko_commands.specs.declared.refused_delays.RefusedDelays.{RefusedDelays}
use Rattle.tko_cli.specs.declared.planned.ServePlan.{ServePlan}
use Rattle.tko_options.specs.declared.serve_options.ServeOptions.{ServeOptions}

-- how long the server waits for a client
abbrev pub serve_patience : ServeOptions → Patience
serve_patience options = record {
  write_timeout = options.write_timeout;
  idle_timeout = options.idle_timeout;
}

-- how the keys of one request are sent: each in a request of its own, or those that go to one
-- server in one
abbrev pub serve_grouping : Bool → Grouping
serve_grouping true = ByServer
serve_grouping false = ByKey

abbrev pub serve_keys : ServeOptions → KeyPlan
serve_keys options =
    record { most = options.keys_at_once; grouping = serve_grouping options.group_keys }

-- what the options say of a tracker of a configuration's servers, as if these were in one group
abbrev pub plan_options : ServeOptions → Configuration → Settings
plan_options options config = in_one_group (serve_settings options (length config.addresses))

-- the settings of the tracker of a configuration's servers
abbrev pub plan_settings : ServeOptions → Configuration → Settings
plan_settings options config = grouped config (serve_settings options (length config.addresses))

-- whether an address that may be left out is one, where it is there
abbrev pub is_address_if_any : Option (List ℕ) → Bool
is_address_if_any None = true
is_address_if_any (Some address) = is_address address

-- the configuration of the JSON, settings in their ranges, and delays in theirs; what it listens on
-- is an address, and so is what its metrics listen on, if they are asked for
pub record IsServePlan (options : ServeOptions) (plan : ServePlan) : Type 0 where
  pub config : Means (string_bytes options.config) plan.config
  pub settings : plan.settings ≡ plan_settings options plan.config
  pub within : IsWithinRanges plan.settings
  pub first : plan.delays.first ≡ options.first_delay
  pub greatest : plan.delays.greatest ≡ options.greatest_delay
  pub listen : is_address (string_bytes options.listen) ≡ true
  pub metrics : is_address_if_any (option_map string_bytes options.metrics) ≡ true

-- a server of this plan, with the time limits, the limit of clients, the number of keys at once,
-- how these are sent, and the number of connections that the options name, in a process that may
-- have `allowed` files open
pub record IsServerOf (plan : ServePlan) (options : ServeOptions) (allowed : Option ℕ)
    (server : Server) : Type 0 where
  pub config : server.config ≡ plan.config
  pub settings : server.settings ≡ plan.settings
  pub delays : server.delays ≡ plan.delays
  pub timeout : server.timeout ≡ options.timeout
  pub patience : server.patience ≡ serve_patience options
  pub open_files : server.open_files ≡ allowed
  pub clients : server.clients ≡ options.clients
  pub keys : server.keys ≡ serve_keys options
  pub connections : server.connections ≡ options.connections

-- this is what is wrong with the JSON
pub record IsFlawedPlan (options : ServeOptions) (cause : ConfigFault) : Type 0 where
  pub refuses : Refuses (string_bytes options.config) cause
  pub reason : fault_of_config cause ≡ fault.Config cause

-- the JSON is a configuration, and this setting is the first one outside its range, whether the
-- limit is one that a group has or not
pub record IsUnsetPlan (options : ServeOptions) (outside : OutsideRange) : Type 0 where
  pub config : Configuration
  pub means : Means (string_bytes options.config) config
  pub first : IsFirstOutside (serve_settings options (length config.addresses)) outside

-- the JSON is a configuration, and the options are in their ranges
pub record IsSet (options : ServeOptions) : Type 0 where
  pub config : Configuration
  pub means : Means (string_bytes options.config) config
  pub within : IsWithinRanges (plan_options options config)

-- the delays, these, are out of their range, where all before them is good
pub record HasBadDelays (options : ServeOptions) (delays : RefusedDelays) : Type 0 where
  pub set : IsSet options
  pub first : delays.first ≡ options.first_delay
  pub greatest : delays.greatest ≡ options.greatest_delay
  pub refused : ¬ IsRange options.first_delay options.greatest_delay

-- what it is to listen on is no address, where all else is good
pub record HasNoAddress (options : ServeOptions) : Type 0 where
  pub set : IsSet options
  pub delays : IsRange options.first_delay options.greatest_delay
  pub refused : is_address (string_bytes options.listen) ≡ false

-- what its metrics are to listen on is no address, where all else is good
pub record HasNoMetricsAddress (options : ServeOptions) : Type 0 where
  pub set : IsSet options
  pub delays : IsRange options.first_delay options.greatest_delay
  pub listen : is_address (string_bytes options.listen) ≡ true
  pub refused : is_address_if_any (option_map string_bytes options.metrics) ≡ false

-- why the options name nothing to run on: the first reason
abbrev pub NoPlan : ServeOptions → Fault → Type 0
NoPlan options (fault.Config cause) = IsFlawedPlan options cause
NoPlan options (fault.Settings outside) = IsUnsetPlan options outside
NoPlan options (fault.Delays delays) = HasBadDelays options delays
NoPlan options (fault.Listen cause) =
    HasNoAddress options × (cause ≡ listen_fault.NoAddress)
NoPlan options (fault.Metrics cause) =
    HasNoMetricsAddress options × (cause ≡ listen_fault.NoAddress)
NoPlan options fault.Memory = Unit {0}
NoPlan options _ = ⊥
