-- How far a delay can double.
use Rattle.std.proofs.Common.{◌≡◌, ◌≤◌, ◌<◌, ◌*◌, ◌^◌, ℕ, min, arith, lit<}
use Rattle.std.proofs.Math.Nat.{min-eq_right, mul-le-mul_right, pow-le-pow_right}

-- after 32 doublings every delay is the greatest
pub doubled-min : (first greatest results : ℕ) → 1 ≤ first → greatest < 2 ^ 32 → 32 ≤ results
    → min (first * 2 ^ results) greatest ≡ greatest
doubled-min first greatest results some_delay fits many =
    let doubled : 2 ^ 32 ≤ 2 ^ results = pow-le-pow_right {n = 2} (lit< tt) many in
    let product : 1 * 2 ^ results ≤ first * 2 ^ results = mul-le-mul_right (2 ^ results) some_delay in
    min-eq_right (omega (arith, doubled, product))
