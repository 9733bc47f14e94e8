use Rattle.tko_ring.proofs.KeyPartLemmas.{before_byte-at, before_byte-none}
use Rattle.tko_ring.proofs.key_part.before_byte.Goals as goal

pub returns-in_err-place : goal.returns-in_err-place
returns-in_err-place c =
    rw c.from_residual.ensures (before_byte-none c.args.byte c.args.bytes.now c.in_err-place.ensures)

pub returns : goal.returns
returns c =
    let at = c.in_ok-place.ensures in
    before_byte-at c.args.byte c.args.bytes.now c.in_ok-place.place at.0.before at.0.high at.1
