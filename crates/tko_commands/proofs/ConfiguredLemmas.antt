-- Why there is no configuration.
use Rattle.std.proofs.Common.{◌≡◌, ℕ, ◌+◌, ◌≤◌, List, [], ◌∷◌, ◌++◌, length, map, Some, None, refl, sym, arith}
use Rattle.std.specs.Prelude.{codes, decimal}
use Rattle.std.proofs.lemmas.List.{length-map, map-append}
use Rattle.std.proofs.lemmas.List.FromFn.{length-map-range_with_len, map-range_with_len_more}
use Rattle.tko_model.specs.Limits.{max_servers}
use Rattle.tko_pools.specs.Configs.{Refuses}
use Rattle.tko_pools.specs.declared.fault.ConfigFault.{ConfigFault}
use Rattle.tko_pools.specs.declared.fault.ConfigFault.TheVariants as config_fault
use Rattle.tko_commands.specs.declared.fault.Fault.{Fault}
use Rattle.tko_commands.specs.declared.fault.Fault.TheVariants as fault
use Rattle.tko_options.specs.declared.dry_options.DryOptions.{DryOptions}
use Rattle.tko_commands.specs.Configured.{IsFlawed, NoConfig, json_in, scripted_names}
use Rattle.tko_options.specs.Trackers.{dry_settings}
use Rattle.tko_commands.specs.Faults.{fault_of_config}
use Rattle.tko_commands.specs.Grouped.{NoSettings}

flawed : (options : DryOptions) (json : List ℕ) (cause : ConfigFault)
    → json_in options ≡ Some json → Refuses json cause → fault_of_config cause ≡ fault.Config cause
    → IsFlawed options cause
flawed options json cause given refuses reason =
    record { json = json; given = given; refuses = refuses; reason = reason }

-- the JSON is no configuration
pub config_refused : (options : DryOptions) (json : List ℕ) (cause : ConfigFault)
    → json_in options ≡ Some json → Refuses json cause → NoConfig options (fault_of_config cause)
config_refused options json config_fault.Json given r = flawed options json config_fault.Json given r refl
config_refused options json config_fault.NoPools given r = flawed options json config_fault.NoPools given r refl
config_refused options json (config_fault.EmptyPool name) given r =
    flawed options json (config_fault.EmptyPool name) given r refl
config_refused options json (config_fault.Address text) given r =
    flawed options json (config_fault.Address text) given r refl
config_refused options json (config_fault.SoftLimit name) given r =
    flawed options json (config_fault.SoftLimit name) given r refl
config_refused options json (config_fault.PoolKey key name) given r =
    flawed options json (config_fault.PoolKey key name) given r refl
config_refused options json config_fault.Route given r = flawed options json config_fault.Route given r refl
config_refused options json (config_fault.NoSuchPool name) given r =
    flawed options json (config_fault.NoSuchPool name) given r refl
config_refused options json config_fault.TooManyServers given r =
    flawed options json config_fault.TooManyServers given r refl
config_refused options json config_fault.Memory given r = tt

-- one more name
pub names-more : {X : Type 0} (text : X → List ℕ) (count : ℕ) (names all : List X) (name : X)
    → map text names ≡ scripted_names count → text name ≡ codes "dry:" ++ decimal count
    → all ≡ names ++ name ∷ [] → map text all ≡ scripted_names (count + 1)
names-more text count names all name before last e =
    let more = map-range_with_len_more (λ server. codes "dry:" ++ decimal server) 0 count count (omega arith) in
    rw (e, map-append text names (name ∷ []), before, last) (sym more)

-- there are as many names as servers
pub names-few : {X : Type 0} (text : X → List ℕ) (names : List X) (count : ℕ)
    → map text names ≡ scripted_names count → count ≤ max_servers → length names ≤ max_servers
names-few text names count e few =
    let all : length (map text names) ≡ count = rw e (length-map-range_with_len _ 0 count) in
    let same : length (map text names) ≡ length names = length-map names text in
    omega (arith, all, same, few)

-- without a configuration the settings are judged first
pub unset : (options : DryOptions) (reason : Fault) → options.config ≡ None
    → NoSettings (dry_settings options options.servers) reason → NoConfig options reason
unset options (fault.Settings outside) alone first = record { alone = rw alone refl; first = first }
unset options fault.Memory alone none = tt
unset options fault.Read alone none = absurd none
unset options fault.Write alone none = absurd none
unset options fault.LineTooLong alone none = absurd none
unset options (fault.Config cause) alone none = absurd none
unset options fault.ConfigFile alone none = absurd none
unset options (fault.Against cause) alone none = absurd none
unset options (fault.KeysFile unread) alone none = absurd none
unset options (fault.Outcomes number) alone none = absurd none
unset options (fault.Line number) alone none = absurd none
unset options fault.Check alone none = absurd none
unset options (fault.Delays delays) alone none = absurd none
unset options (fault.Listen cause) alone none = absurd none
unset options (fault.Metrics cause) alone none = absurd none
unset options fault.Accept alone none = absurd none
