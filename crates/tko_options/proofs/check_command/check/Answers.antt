use Rattle.std.proofs.Common.{rules, codes}
use Rattle.clap.specs.Words.{new_app}
use Rattle.tko_options.specs.CommandLine.{ReadsAs}
use Rattle.tko_options.proofs.CommandLineLemmas.{adds_option}
use Rattle.tko_options.proofs.check_command.check.Goals as goal

pub returns : goal.returns
returns c =
    let empty : ReadsAs (new_app (codes "check")) c.after_help.result = search rules in
    let config = adds_option _ _ _ _ c.in_ok-arg.field-0 empty c.in_ok-arg.ensures c.in_ok-config.ensures.local c.in_ok-config.ensures.rule in
    let file = adds_option _ _ _ _ c.in_ok-check.check config c.in_ok-check.ensures c.in_ok-required_file.ensures.local c.in_ok-required_file.ensures.rule in
    c.with_connecting.ensures _ (c.in_ok-check-2.ensures _ file)
