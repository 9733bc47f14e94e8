-- The command `demo` as clap reads it.
use Rattle.std.specs.Prelude.{codes}
use Rattle.clap.specs.Words.{App, Rule, new_app, with_rule}
use Rattle.tko_options.specs.CommandLine.{switch_option}

-- `--stay`, a switch
abbrev pub stay_option : Rule
stay_option = switch_option (codes "stay")

abbrev pub demo_command : App
demo_command = with_rule (new_app (codes "demo")) stay_option
