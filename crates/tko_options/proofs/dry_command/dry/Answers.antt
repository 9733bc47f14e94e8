use Rattle.std.proofs.Common.{rules, codes}
use Rattle.clap.specs.Words.{new_app}
use Rattle.tko_options.specs.CommandLine.{ReadsAs}
use Rattle.tko_options.proofs.CommandLineLemmas.{adds_option}
use Rattle.tko_options.proofs.dry_command.dry.Goals as goal

pub returns : goal.returns
returns c =
    let empty : ReadsAs (new_app (codes "dry")) c.after_help.result = search rules in
    let servers = adds_option _ _ _ _ c.in_ok-dry.dry empty c.in_ok-dry.ensures c.servers.ensures.local c.servers.ensures.rule in
    let tracker = c.in_ok-with_tracker.ensures _ servers in
    c.with_script.ensures _ tracker
