-- How a command grows by arguments and by subcommands.
use Rattle.std.proofs.Common.{◌≡◌, ◌∙◌, ap, ap₂, false, refl}
use Rattle.clap.specs.Words.{AddsArg, AddsSubcommand, App, Rule, rule_of, with_rule, with_subcommand}
use Rattle.clap.specs.declared.builder.arg.Arg.{Arg}
use Rattle.clap.specs.declared.builder.command.Command.{Command}
use Rattle.tko_options.specs.CommandLine.{ReadsAs}

pub adds_option : (app : App) (rule : Rule) (old : Command) (arg : Arg) (new : Command) → ReadsAs app old
    → AddsArg old arg new → arg.global ≡ false → rule_of arg ≡ rule → ReadsAs (with_rule app rule) new
adds_option app rule old arg new reads added local is =
    record {
      shape = added.shape local ∙ ap₂ with_rule reads.shape is;
      local = added.globals ∙ rw (reads.local, local) refl;
    }

pub adds_command : (app inner : App) (old sub new : Command) → ReadsAs app old → ReadsAs inner sub
    → AddsSubcommand old sub new → ReadsAs (with_subcommand app inner.top) new
adds_command app inner old sub new reads inner_reads added =
    record {
      shape = added.shape inner_reads.local
          ∙ ap₂ with_subcommand reads.shape (ap (λ (a : App). a.top) inner_reads.shape);
      local = added.globals ∙ rw (reads.local, inner_reads.local) refl;
    }
