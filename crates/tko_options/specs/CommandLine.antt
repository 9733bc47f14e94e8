-- The options that several commands have and the commands `dry` and `replay`, as clap reads them,
-- and the defaults.
use Rattle.std.specs.Prelude.{◌≡◌, ℕ, false, pos, Some, [], ◌∷◌, codes}
use Rattle.clap.specs.Words.{App, Rule, Text, app_of, new_app, new_rule, rule_of, with_rule}
use Rattle.clap.specs.declared.builder.action.ArgAction.TheVariants.{SetTrue}
use Rattle.clap.specs.declared.builder.arg.Arg.{Arg}
use Rattle.clap.specs.declared.builder.command.Command.{Command}
use Rattle.clap.specs.declared.builder.command.Command.TheViews.{out-Command}
use Rattle.clap.specs.declared.builder.value_parser.ValueParser.{ValueParser}
use Rattle.clap.specs.declared.builder.value_parser.ValueParser.TheVariants as parser

abbrev pub default_servers : Text
default_servers = codes "1"

abbrev pub default_failures : Text
default_failures = codes "3"

abbrev pub default_limit : Text
default_limit = codes "40"

abbrev pub default_tries : Text
default_tries = codes "8"

-- the greatest number of an option of 32 bits
abbrev pub max_option_number : ℕ
max_option_number = 4294967295

-- a number of 32 bits
abbrev pub any_number : ValueParser
any_number = parser.Signed (pos 0) (pos max_option_number)

-- `--name VALUE`, a text that may be left out
abbrev pub text_option : Text → Rule
text_option name = record (new_rule name) { long = Some name; value_names = 1 }

-- `--name N`, a number
abbrev pub number_option : Text → Text → Rule
number_option name default =
    record (text_option name) { defaults = default ∷ []; parser = Some any_number }

-- `--config JSON`, which may be left out
abbrev pub config_option : Rule
config_option = text_option (codes "config")

-- `--config JSON`, which is wanted where another option is not given
abbrev pub required_config : Rule
required_config = record config_option { is_free = false }

-- `--config-file PATH`, which stands beside no option of another name
abbrev pub config_file_option : Rule
config_file_option = record (text_option (codes "config-file")) { is_free = false }

-- `--outcomes LIST`, empty by default
abbrev pub outcomes_option : Rule
outcomes_option = record (text_option (codes "outcomes")) { defaults = [] ∷ [] }

-- `--name`, a switch that is off by default
abbrev pub switch_option : Text → Rule
switch_option name = record (new_rule name) { long = Some name; action = Some SetTrue }

abbrev pub trail_option : Rule
trail_option = switch_option (codes "trail")

abbrev pub servers_option : Rule
servers_option = number_option (codes "servers") default_servers

-- the options of the tracker
abbrev pub with_tracker : App → App
with_tracker app =
    with_rule (with_rule (with_rule app
    (number_option (codes "failures") default_failures))
    (number_option (codes "limit") default_limit))
    (number_option (codes "tries") default_tries)

-- the configuration, and what the servers do
abbrev pub with_script : App → App
with_script app =
    with_rule (with_rule (with_rule (with_rule app config_option) config_file_option)
    outcomes_option) trail_option

abbrev pub dry_command : App
dry_command = with_script (with_tracker (with_rule (new_app (codes "dry")) servers_option))

abbrev pub replay_command : App
replay_command = new_app (codes "replay")

-- the argument is read by this rule, in its own command alone
pub record IsOption (wanted : Rule) (arg : Arg) : Type 0 where
  pub rule : rule_of arg ≡ wanted
  pub local : arg.global ≡ false

-- the command is read as this one
pub record ReadsAs (app : App) (command : Command) : Type 0 where
  pub shape : app_of command ≡ app
  pub local : (out-Command command).has_globals ≡ false
