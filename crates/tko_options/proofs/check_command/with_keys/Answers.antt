use Rattle.std.proofs.lemmas.Result.{IfOk-weaker}
use Rattle.tko_options.proofs.CommandLineLemmas.{adds_option}
use Rattle.tko_options.proofs.check_command.with_keys.Goals as goal

pub returns : goal.returns
returns c app reads =
    let one = adds_option app _ _ _ c.in_ok-arg.field-0 reads c.in_ok-arg.ensures
    c.key.ensures.local c.key.ensures.rule in
    let two = adds_option _ _ _ _ c.in_ok-arg-2.field-0 one c.in_ok-arg-2.ensures
    c.keys_from.ensures.local c.keys_from.ensures.rule in
    IfOk-weaker c.arg-3.result _ _
    (λ command added. adds_option _ _ _ _ command two added c.against.ensures.local
    c.against.ensures.rule) c.arg-3.ensures
