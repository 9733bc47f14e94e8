use Rattle.std.proofs.Common.{◌≤◌, arith}
use Rattle.tko_ring.proofs.DigestLemmas.{multiple_fits, shifted-small}
use Rattle.tko_ring.proofs.digests.rounded.Goals as goal

pub nearest-requires-clause-small : goal.nearest-requires-clause-small
nearest-requires-clause-small c =
    let few : c.saturating_sub.result ≤ 40 = omega (arith, c.binary_digits.ensures.bits, c.saturating_sub.ensures) in
    omega (arith, shifted-small c.saturating_sub.result 40 few)

pub overflow_mul-result : goal.overflow_mul-result
overflow_mul-result c =
    let below : c.saturating_sub.result ≤ c.binary_digits.result = omega (arith, c.saturating_sub.ensures) in
    omega (arith, c.requires, multiple_fits c.args.x c.nearest.result c.binary_digits.result c.saturating_sub.result c.nearest.ensures.near c.binary_digits.ensures.least below)
