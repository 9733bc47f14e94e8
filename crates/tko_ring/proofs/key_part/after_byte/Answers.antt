use Rattle.std.proofs.Common.{◌∙◌, ◌+◌, ap, sym, Some}
use Rattle.std.proofs.lemmas.List.{take_rest}
use Rattle.tko_ring.proofs.KeyPartLemmas.{after_byte-at, after_byte-none}
use Rattle.tko_ring.proofs.key_part.after_byte.Goals as goal

pub returns-in_err-place : goal.returns-in_err-place
returns-in_err-place c =
    rw c.from_residual.ensures (after_byte-none c.args.byte c.args.bytes.now c.in_err-place.ensures)

pub returns : goal.returns
returns c =
    let at = c.in_ok-place.ensures in
    after_byte-at c.args.byte c.args.bytes.now c.in_ok-place.place at.0.before at.0.high at.1
    ∙ ap Some (sym (take_rest c.args.bytes.now (c.in_ok-place.place + 1)))
