use Rattle.std.proofs.Common.{rules, codes}
use Rattle.std.proofs.lemmas.Result.{IfOk-weaker}
use Rattle.clap.specs.Words.{new_app}
use Rattle.tko_options.specs.CommandLine.{ReadsAs}
use Rattle.tko_options.proofs.CommandLineLemmas.{adds_option}
use Rattle.tko_options.proofs.serve_command.serve.Goals as goal

pub returns : goal.returns
returns c =
    let empty : ReadsAs (new_app (codes "serve")) c.after_help-serve.result = search rules in
    let options = c.in_ok-with_server_options.ensures _ empty in
    IfOk-weaker c.arg.result _ _
    (λ command added. adds_option _ _ _ _ command options added c.only_check.ensures.local
    c.only_check.ensures.rule) c.arg.ensures
