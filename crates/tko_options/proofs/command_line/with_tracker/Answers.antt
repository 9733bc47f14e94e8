use Rattle.std.proofs.Common.{rules, ◌≡◌, codes}
use Rattle.std.proofs.lemmas.Result.{IfOk-weaker}
use Rattle.clap.specs.Words.{rule_of}
use Rattle.tko_options.specs.CommandLine.{default_failures, default_limit, default_tries, number_option}
use Rattle.tko_options.proofs.CommandLineLemmas.{adds_option}
use Rattle.tko_options.proofs.command_line.with_tracker.Goals as goal

pub returns : goal.returns
returns c app reads =
    let failures : rule_of c.number.result ≡ number_option (codes "failures") default_failures = search rules in
    let limit : rule_of c.number-2.result ≡ number_option (codes "limit") default_limit = search rules in
    let tries : rule_of c.number-3.result ≡ number_option (codes "tries") default_tries = search rules in
    let one = adds_option app _ _ _ c.in_ok-arg.field-0 reads c.in_ok-arg.ensures c.number.ensures.local failures in
    let two = adds_option _ _ _ _ c.in_ok-arg-2.field-0 one c.in_ok-arg-2.ensures c.number-2.ensures.local limit in
    IfOk-weaker c.arg-3.result _ _
    (λ command added. adds_option _ _ _ _ command two added c.number-3.ensures.local tries) c.arg-3.ensures
