use Rattle.std.proofs.lemmas.Result.{IfOk-weaker}
use Rattle.tko_options.proofs.CommandLineLemmas.{adds_command}
use Rattle.tko_options.proofs.command_line.program.Goals as goal

pub returns : goal.returns
returns c =
    let demo = adds_command _ _ _ _ c.in_ok-subcommand.field-0 c.in_ok-named.ensures c.in_ok-demo.ensures c.in_ok-subcommand.ensures in
    let dry = adds_command _ _ _ _ c.in_ok-subcommand-2.field-0 demo c.in_ok-dry.ensures c.in_ok-subcommand-2.ensures in
    let replay = adds_command _ _ _ _ c.in_ok-subcommand-3.field-0 dry c.replay.ensures c.in_ok-subcommand-3.ensures in
    let serve = adds_command _ _ _ _ c.in_ok-subcommand-4.field-0 replay c.in_ok-serve.ensures c.in_ok-subcommand-4.ensures in
    IfOk-weaker c.subcommand-5.result _ _
    (λ command added. adds_command _ _ _ _ command serve c.in_ok-check.ensures added) c.subcommand-5.ensures
