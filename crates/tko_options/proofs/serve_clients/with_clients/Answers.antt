use Rattle.std.proofs.lemmas.Result.{IfOk-weaker}
use Rattle.tko_options.proofs.CommandLineLemmas.{adds_option}
use Rattle.tko_options.proofs.serve_clients.with_clients.Goals as goal

pub returns : goal.returns
returns c app reads =
    let one = adds_option app _ _ _ c.in_ok-arg.field-0 reads c.in_ok-arg.ensures
    c.mode.ensures.local c.mode.ensures.rule in
    let two = adds_option _ _ _ _ c.in_ok-arg-2.field-0 one c.in_ok-arg-2.ensures
    c.threads.ensures.local c.threads.ensures.rule in
    let three = adds_option _ _ _ _ c.in_ok-arg-3.field-0 two c.in_ok-arg-3.ensures
    c.clients.ensures.local c.clients.ensures.rule in
    let four = adds_option _ _ _ _ c.in_ok-arg-4.field-0 three c.in_ok-arg-4.ensures
    c.keys_at_once.ensures.local c.keys_at_once.ensures.rule in
    let five = adds_option _ _ _ _ c.in_ok-arg-5.field-0 four c.in_ok-arg-5.ensures
    c.group_keys.ensures.local c.group_keys.ensures.rule in
    IfOk-weaker c.arg-6.result _ _
    (λ command added. adds_option _ _ _ _ command five added c.connections.ensures.local
    c.connections.ensures.rule) c.arg-6.ensures
