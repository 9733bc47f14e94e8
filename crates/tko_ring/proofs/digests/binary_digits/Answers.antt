use Rattle.std.proofs.Common.{arith}
use Rattle.tko_ring.proofs.DigestLemmas.{binary_digits-bounds}
use Rattle.tko_ring.proofs.digests.binary_digits.Goals as goal

pub returns-clause-above : goal.returns-clause-above
returns-clause-above c = (binary_digits-bounds c.args.x (omega arith)).0

pub returns-clause-least : goal.returns-clause-least
returns-clause-least c = (binary_digits-bounds c.args.x (omega arith)).1
