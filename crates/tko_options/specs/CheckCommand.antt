-- The command `check` as clap reads it.
use Rattle.std.specs.Prelude.{Some, codes}
use Rattle.clap.specs.Words.{App, Rule, new_app, with_rule}
use Rattle.clap.specs.declared.builder.action.ArgAction.TheVariants.{Append}
use Rattle.tko_options.specs.CommandLine.{config_file_option, required_config, switch_option, text_option}
use Rattle.tko_options.specs.ServeCommand.{default_timeout, limit_option}

-- `--key KEY`, as often as there are keys
abbrev pub key_option : Rule
key_option = record (text_option (codes "key")) { action = Some Append }

-- `--keys-from FILE`
abbrev pub keys_from_option : Rule
keys_from_option = text_option (codes "keys-from")

-- `--against FILE`
abbrev pub against_option : Rule
against_option = text_option (codes "against")

-- the keys whose servers are asked for
abbrev pub with_keys : App → App
with_keys app = with_rule (with_rule (with_rule app key_option) keys_from_option) against_option

-- `--connect`, a switch
abbrev pub connect_option : Rule
connect_option = switch_option (codes "connect")

-- whether its servers are asked, and how long each may take
abbrev pub with_connecting : App → App
with_connecting app =
    with_rule (with_rule app connect_option) (limit_option (codes "timeout") default_timeout)

abbrev pub check_command : App
check_command =
    with_connecting (with_keys
    (with_rule (with_rule (new_app (codes "check")) required_config) config_file_option))
