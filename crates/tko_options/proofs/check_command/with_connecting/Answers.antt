use Rattle.std.proofs.lemmas.Result.{IfOk-weaker}
use Rattle.tko_options.proofs.CommandLineLemmas.{adds_option}
use Rattle.tko_options.proofs.check_command.with_connecting.Goals as goal

pub returns : goal.returns
returns c app reads =
    let one = adds_option app _ _ _ c.in_ok-arg.field-0 reads c.in_ok-arg.ensures
    c.connect.ensures.local c.connect.ensures.rule in
    IfOk-weaker c.arg-2.result _ _
    (λ command added. adds_option _ _ _ _ command one added c.limit.ensures.local
    c.limit.ensures.rule) c.arg-2.ensures
