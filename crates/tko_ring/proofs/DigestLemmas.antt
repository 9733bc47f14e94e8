-- Binary digits, and numbers that are rounded to some of them.
use Rattle.std.proofs.Common.{◌≡◌, ℕ, zero, suc, ◌+◌, ◌-◌, ◌*◌, ◌/◌, ◌%◌, ◌^◌, ◌<◌, ◌≤◌, Bool, true, false, if◌then◌else◌, inl, inr, arith, subst, lit<}
use Rattle.std.proofs.Math.Nat.{div-le_self, le_of_mul-le-mul_left, mod-le, mod-lt, mul-le-mul_left, mul-le-mul_right, one-le-pow, pow-le-pow_right, pow-suc}
use Rattle.std.proofs.lemmas.Bool.{cases_lt}
use Rattle.std.proofs.lemmas.Nat.{div-add-mod', le-div, leading_length}
use Rattle.tko_ring.specs.Digests.{binary_digits, digests_of, nearest, rounded, scale_of, weight_share}

-- a number is below the power of two of its digits, and half of that power is at most the number
pub binary_digits-bounds : (x : ℕ) → x < 2 ^ 64
    → (x < 2 ^ binary_digits x) × (2 ^ binary_digits x ≤ 2 * x + 1)
binary_digits-bounds x small =
    let top = leading_length 64 x small in
    let digits : top.0 ≡ binary_digits x = omega (arith, top.1) in
    subst (λ (n : ℕ). (x < 2 ^ n) × (2 ^ n ≤ 2 * x + 1)) digits (top.2, top.3)

-- a power that a shift makes
pub shifted-le : (d : ℕ) → 1 * 2 ^ d % 2 ^ 64 ≤ 2 ^ d
shifted-le d = omega (arith, mod-le (1 * 2 ^ d) (2 ^ 64))

pub shifted-small : (d k : ℕ) → d ≤ k → 1 * 2 ^ d % 2 ^ 64 ≤ 2 ^ k
shifted-small d k le = omega (arith, shifted-le d, pow-le-pow_right {n = 2} (lit< tt) le)

-- the power of two next to a quotient takes the divisor near the number
pub scale_fits : (w t d : ℕ) → 2 ^ d ≤ 2 * ((t - 1) / w) + 1 → w * (1 * 2 ^ d % 2 ^ 64) ≤ 2 * t + w
scale_fits w t d near =
    let q : ℕ = (t - 1) / w in
    let whole : q * w + (t - 1) % w ≡ t - 1 = div-add-mod' (t - 1) w in
    let power : 1 * 2 ^ d % 2 ^ 64 ≤ 2 * q + 1 = omega (arith, shifted-le d, near) in
    omega (arith, whole, mul-le-mul_left w power)

-- a multiple of a unit next to a number, where the unit is one of its binary digits
pub multiple_fits : (x n d k : ℕ) → n ≤ x / (1 * 2 ^ k % 2 ^ 64) + 1 → 2 ^ d ≤ 2 * x + 1 → k ≤ d
    → n * (1 * 2 ^ k % 2 ^ 64) ≤ 3 * x + 1
multiple_fits x n d k near digits below =
    let unit : ℕ = 1 * 2 ^ k % 2 ^ 64 in
    let whole : x / unit * unit + x % unit ≡ x = div-add-mod' x unit in
    let power : unit ≤ 2 ^ d = shifted-small k d below in
    omega (arith, whole, power, digits, mul-le-mul_right unit near)

-- ---- a server of as much weight as the servers have each has a digest

unit_by : (x d : ℕ) → 0 < x → d ≤ 64 → (x < 2 ^ 64 → 2 ^ d ≤ 2 * x + 1) → 2 ^ (d - 24) ≤ x
unit_by x zero some fits near = omega arith
unit_by x (suc e) some fits near = elim (cases_lt x (2 ^ 64)) [
  | inl small ↦
      omega (arith, near small, pow-suc 2 e, one-le-pow e 2 (lit< tt), pow-le-pow_right {n = 2} (lit< tt) {i = suc e - 24} {j = e} (omega arith))
  | inr large ↦ omega (arith, large, pow-le-pow_right {n = 2} (lit< tt) {i = suc e - 24} {j = 40} (omega arith))
]

floor_or : (b : Bool) (n : ℕ) → n ≤ (if b then n + 1 else n)
floor_or true n = omega arith
floor_or false n = omega arith

nearest-floor : (x y : ℕ) → x / y ≤ nearest x y
nearest-floor x y = floor_or _ (x / y)

-- what is rounded is at least half of the number
rounded-half : (x : ℕ) → x ≤ 2 * rounded x
unfolding rounded
rounded-half zero = omega arith
rounded-half (suc n) =
    let x : ℕ = suc n in
    let d : ℕ = binary_digits x in
    let unit : ℕ = 2 ^ (d - 24) in
    let some : 0 < unit = one-le-pow (d - 24) 2 (lit< tt) in
    let low : unit ≤ x = unit_by x d (omega arith) (omega arith) (λ small. (binary_digits-bounds x small).1) in
    let one : 1 ≤ x / unit = le-div 1 x unit some (omega (arith, low)) in
    let whole : x / unit * unit + x % unit ≡ x = div-add-mod' x unit in
    let rest : x % unit < unit = mod-lt x some in
    omega (arith, whole, rest, mul-le-mul_right unit one, mul-le-mul_right unit (nearest-floor x unit))

-- the scale takes a weight to the total
scale_reaches : (w t : ℕ) → 0 < w → 0 < t → t ≤ 2 ^ 24 → t ≤ w * scale_of w t
unfolding scale_of
scale_reaches w t some more few =
    let q : ℕ = (t - 1) / w in
    let whole : q * w + (t - 1) % w ≡ t - 1 = div-add-mod' (t - 1) w in
    let rest : (t - 1) % w < w = mod-lt (t - 1) some in
    let small : q ≤ t - 1 = div-le_self (t - 1) w in
    let above : q + 1 ≤ 2 ^ binary_digits q = omega (arith, (binary_digits-bounds q (omega (arith, small, few))).0) in
    omega (arith, whole, rest, more, mul-le-mul_left w above)

scale-some : (w t : ℕ) → 0 < scale_of w t * 2 ^ 23
unfolding scale_of
scale-some w t = omega (arith, one-le-pow (binary_digits ((t - 1) / w)) 2 (lit< tt))

-- a share is at least the half of what it is the nearest number to
share_near : (w s t : ℕ) → 0 < t → t ≤ w * s → w * s * 2 ^ 23 ≤ 2 * (nearest (w * s * 2 ^ 23) t * t)
share_near w s t some reach =
    let x : ℕ = w * s * 2 ^ 23 in
    let whole : x / t * t + x % t ≡ x = div-add-mod' x t in
    let rest : x % t < t = mod-lt x some in
    omega (arith, whole, rest, reach, mul-le-mul_right t (nearest-floor x t))

pub digests_some : (w t n : ℕ) → 0 < w → w ≤ t → t ≤ 2 ^ 24 → t ≤ w * n → 0 < digests_of w t n
unfolding digests_of
digests_some w t n some within few heavy =
    let s : ℕ = scale_of w t in
    let share : ℕ = weight_share w t in
    let first : ℕ = rounded (40 * share) in
    let more : 0 < t = omega (arith, some, within) in
    let reach : t ≤ w * s = scale_reaches w t some more few in
    let near : w * s * 2 ^ 23 ≤ 2 * (share * t) = share_near w s t more reach in
    let times : w * s * 2 ^ 23 * n ≤ 2 * (share * t) * n = mul-le-mul_right n near in
    let spread : t * (s * 2 ^ 23) ≤ w * n * (s * 2 ^ 23) = mul-le-mul_right (s * 2 ^ 23) heavy in
    let both : t * (s * 2 ^ 23) ≤ t * (2 * (share * n)) = omega (arith, times, spread) in
    let all : s * 2 ^ 23 ≤ 2 * (share * n) = le_of_mul-le-mul_left both more in
    let half : 40 * share ≤ 2 * first = rounded-half (40 * share) in
    let halves : 40 * share * n ≤ 2 * first * n = mul-le-mul_right n half in
    let last : first * n ≤ 2 * rounded (first * n) = rounded-half (first * n) in
    let whole : 1 * (s * 2 ^ 23) ≤ rounded (first * n) = omega (arith, all, halves, last) in
    le-div 1 (rounded (first * n)) (s * 2 ^ 23) (scale-some w t) whole
