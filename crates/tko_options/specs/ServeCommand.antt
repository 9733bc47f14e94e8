-- The command `serve` as clap reads it, and its defaults.
use Rattle.std.specs.Prelude.{ℕ, true, pos, Some, [], ◌∷◌, codes}
use Rattle.clap.specs.Words.{App, Rule, Text, new_app, with_rule}
use Rattle.clap.specs.declared.builder.value_parser.ValueParser.{ValueParser}
use Rattle.clap.specs.declared.builder.value_parser.ValueParser.TheVariants as parser
use Rattle.tko_options.specs.CommandLine.{any_number, config_file_option, max_option_number, number_option, required_config, switch_option, text_option, with_tracker}

abbrev pub default_mode : Text
default_mode = codes "events"

abbrev pub default_keys_at_once : Text
default_keys_at_once = codes "1"

abbrev pub default_connections : Text
default_connections = codes "0"

-- times are in milliseconds
abbrev pub default_timeout : Text
default_timeout = codes "1000"

abbrev pub default_write_timeout : Text
default_write_timeout = codes "5000"

abbrev pub default_idle_timeout : Text
default_idle_timeout = codes "0"

abbrev pub default_first_delay : Text
default_first_delay = codes "10000"

abbrev pub default_greatest_delay : Text
default_greatest_delay = codes "60000"

abbrev pub default_log : Text
default_log = codes "stderr"

-- the greatest number of connections
abbrev pub max_connections : ℕ
max_connections = 18446744073709551615

-- a number of 64 bits
abbrev pub any_connections : ValueParser
any_connections = parser.Unsigned 0 max_connections

-- a number of 32 bits that is not 0
abbrev pub any_from_one : ValueParser
any_from_one = parser.Signed (pos 1) (pos max_option_number)

-- the option with such numbers alone
abbrev pub from_one : Rule → Rule
from_one rule = record rule { parser = Some any_from_one }

-- `--listen ADDRESS`, which is required
abbrev pub listen_option : Rule
listen_option = record (text_option (codes "listen")) { required = true }

-- `--log WHERE`
abbrev pub log_option : Rule
log_option = record (text_option (codes "log")) { defaults = default_log ∷ [] }

-- `--metrics ADDRESS`, which may be left out
abbrev pub metrics_option : Rule
metrics_option = text_option (codes "metrics")

-- `--mode MODE`
abbrev pub mode_option : Rule
mode_option = record (text_option (codes "mode")) { defaults = default_mode ∷ [] }

-- `--threads N`, a number of 32 bits that may be left out
abbrev pub threads_option : Rule
threads_option = record (text_option (codes "threads")) { parser = Some any_number }

-- `--clients N`, a number from 1 that may be left out
abbrev pub clients_option : Rule
clients_option = from_one (text_option (codes "clients"))

-- the greatest number of keys of a request that may be asked for at once
abbrev pub max_keys_at_once : ℕ
max_keys_at_once = 256

-- `--keys-at-once N`, a number from 1 to 256
abbrev pub keys_option : Rule
keys_option = record (number_option (codes "keys-at-once") default_keys_at_once) {
  parser = Some (parser.Signed (pos 1) (pos max_keys_at_once));
}

-- `--group-keys`, a switch
abbrev pub group_option : Rule
group_option = switch_option (codes "group-keys")

-- `--connections N`, a number of 64 bits
abbrev pub connections_option : Rule
connections_option = record (number_option (codes "connections") default_connections) {
  parser = Some any_connections;
}

-- `--name MS`, a number from 1
abbrev pub limit_option : Text → Text → Rule
limit_option name default = from_one (number_option name default)

-- where it listens, and to whom it speaks
abbrev pub with_address_options : App → App
with_address_options app =
    with_rule (with_rule (with_rule app listen_option) required_config) config_file_option

-- how it serves its clients, and how many
abbrev pub with_clients : App → App
with_clients app =
    with_rule (with_rule (with_rule (with_rule (with_rule (with_rule app mode_option)
    threads_option) clients_option) keys_option) group_option) connections_option

-- how long it waits for a client
abbrev pub with_patience : App → App
with_patience app =
    with_rule (with_rule app (limit_option (codes "write-timeout") default_write_timeout))
    (number_option (codes "idle-timeout") default_idle_timeout)

-- how long an exchange may take, and how long probes wait
abbrev pub with_times : App → App
with_times app =
    with_rule (with_rule (with_rule app (limit_option (codes "timeout") default_timeout))
    (number_option (codes "first-delay") default_first_delay))
    (number_option (codes "greatest-delay") default_greatest_delay)

-- what it says of itself
abbrev pub with_reports : App → App
with_reports app = with_rule (with_rule app log_option) metrics_option

-- `--check`, a switch
abbrev pub only_check_option : Rule
only_check_option = switch_option (codes "check")

-- with the options of a server that runs
abbrev pub with_server_options : App → App
with_server_options app =
    with_reports
    (with_tracker (with_times (with_patience (with_clients (with_address_options app)))))

abbrev pub serve_command : App
serve_command = with_rule (with_server_options (new_app (codes "serve"))) only_check_option
