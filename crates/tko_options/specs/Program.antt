-- The program as clap reads it: its commands, of which it wants one.
use Rattle.std.specs.Prelude.{true, codes}
use Rattle.clap.specs.Simple.{on_top}
use Rattle.clap.specs.Words.{App, new_app, with_subcommand}
use Rattle.tko_options.specs.CheckCommand.{check_command}
use Rattle.tko_options.specs.CommandLine.{dry_command, replay_command}
use Rattle.tko_options.specs.DemoCommand.{demo_command}
use Rattle.tko_options.specs.ServeCommand.{serve_command}

-- the program with a version
abbrev pub titled_program : App
titled_program = on_top (λ shape. record shape { has_version = true }) (new_app (codes "tkoproxy"))

-- the program without its commands, which wants one of them
abbrev pub named_program : App
named_program = on_top (λ shape. record shape { subcommand_required = true }) titled_program

abbrev pub program_app : App
program_app =
    with_subcommand (with_subcommand (with_subcommand (with_subcommand (with_subcommand
    named_program demo_command.top) dry_command.top) replay_command.top) serve_command.top)
    check_command.top
