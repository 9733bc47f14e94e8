use Rattle.std.proofs.Common.{rules, ◌≡◌, codes}
use Rattle.std.proofs.lemmas.Result.{IfOk-weaker}
use Rattle.clap.specs.Words.{rule_of}
use Rattle.tko_options.specs.CommandLine.{number_option}
use Rattle.tko_options.specs.ServeCommand.{default_first_delay, default_greatest_delay}
use Rattle.tko_options.proofs.CommandLineLemmas.{adds_option}
use Rattle.tko_options.proofs.serve_command.with_times.Goals as goal

pub returns : goal.returns
returns c app reads =
    let first : rule_of c.delay.result ≡ number_option (codes "first-delay") default_first_delay = search rules in
    let greatest : rule_of c.delay-2.result ≡ number_option (codes "greatest-delay") default_greatest_delay = search rules in
    let one = adds_option app _ _ _ c.in_ok-arg.field-0 reads c.in_ok-arg.ensures c.timeout.ensures.local c.timeout.ensures.rule in
    let two = adds_option _ _ _ _ c.in_ok-arg-2.field-0 one c.in_ok-arg-2.ensures c.delay.ensures.local first in
    IfOk-weaker c.arg-3.result _ _
    (λ command added. adds_option _ _ _ _ command two added c.delay-2.ensures.local greatest) c.arg-3.ensures
