use Rattle.std.proofs.Common.{◌∙◌}
use Rattle.std.proofs.lemmas.Result.{err_from_is_err_and}
use Rattle.tko_links.proofs.ExchangeLemmas.{not_printed, not_sent, received_after_send}
use Rattle.tko_links.proofs.exchanging.send_and_receive.Goals as goal

pub returns-in_err-print : goal.returns-in_err-print
returns-in_err-print g c =
    let p = err_from_is_err_and c.from_residual.result c.from_residual.ensures.1 in
    rw (p.1, p.2, c.in_err-print.ensures.err) (not_printed c.args.wire.now c.requires.connected)

pub returns-in_err-send : goal.returns-in_err-send
returns-in_err-send g c =
    let p = err_from_is_err_and c.from_residual-in_err-send.result c.from_residual-in_err-send.ensures.1 in
    rw (p.1, p.2) (not_sent c.in_err-send.field-0.0 (c.as_slice.ensures.value ∙ c.in_ok-print.ensures.ok) c.in_err-send.ensures)

pub returns : goal.returns
returns g c =
    received_after_send c.receive.result (c.as_slice.ensures.value ∙ c.in_ok-print.ensures.ok) c.in_ok-send.ensures c.receive.ensures
