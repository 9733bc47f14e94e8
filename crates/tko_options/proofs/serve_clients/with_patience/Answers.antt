use Rattle.std.proofs.Common.{rules, ◌≡◌, codes}
use Rattle.std.proofs.lemmas.Result.{IfOk-weaker}
use Rattle.clap.specs.Words.{rule_of}
use Rattle.tko_options.specs.CommandLine.{number_option}
use Rattle.tko_options.specs.ServeCommand.{default_idle_timeout, default_write_timeout, limit_option}
use Rattle.tko_options.proofs.CommandLineLemmas.{adds_option}
use Rattle.tko_options.proofs.serve_clients.with_patience.Goals as goal

pub returns : goal.returns
returns c app reads =
    let write : rule_of c.limit.result ≡ limit_option (codes "write-timeout") default_write_timeout = search rules in
    let idle : rule_of c.delay.result ≡ number_option (codes "idle-timeout") default_idle_timeout = search rules in
    let one = adds_option app _ _ _ c.in_ok-arg.field-0 reads c.in_ok-arg.ensures c.limit.ensures.local write in
    IfOk-weaker c.arg-2.result _ _
    (λ command added. adds_option _ _ _ _ command one added c.delay.ensures.local idle) c.arg-2.ensures
