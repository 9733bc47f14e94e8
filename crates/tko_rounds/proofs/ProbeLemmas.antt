-- Laws of what a worker knows of its probes.
use Rattle.std.proofs.Common.{◌≡◌, ℕ, zero, suc, ◌+◌, ◌<◌, ◌≤◌, ◌^◌, Bool, true, false, List, [], ◌∷◌, Some, length, cond, count_by, drop, replicate, slice_get, sum_by, refl, arith}
use Rattle.std.proofs.lemmas.List.{drop_all}
use Rattle.std.proofs.lemmas.List.Sums.{sum_by-cons}
use Rattle.tko_bytes.specs.Numbers.{capped}

-- what a place adds to the number of those that are set
abbrev part : Bool → ℕ
part is_out = cond is_out 1 0

-- none is set at first
pub none_set : (count : ℕ) → count_by (λ is_out. is_out) (replicate count false) ≡ 0
none_set zero = refl
none_set (suc count) = omega (arith, sum_by-cons part false (replicate count false), none_set count)

-- where none is set, each place is not
pub each_unset : (out : List Bool) (server : ℕ) → count_by (λ is_out. is_out) out ≡ 0 → server < length out
    → slice_get out server ≡ Some false
each_unset [] server none within = absurd (omega (arith, within))
each_unset (true ∷ out) server none within = absurd (omega (arith, none, sum_by-cons part true out))
each_unset (false ∷ out) zero none within = refl
each_unset (false ∷ out) (suc server) none within =
    each_unset out server (omega (arith, none, sum_by-cons part false out)) (omega (arith, within))

-- once all parts were added, it is the sum of all
pub capped_all : (sum index : ℕ) (counts : List ℕ) → sum < 2 ^ 64 → length counts ≤ index
    → capped (sum + sum_by (λ count. count) (drop index counts)) ≡ capped (sum_by (λ count. count) counts)
    → sum ≡ capped (sum_by (λ count. count) counts)
capped_all sum index counts fits ended is =
    let none : drop index counts ≡ [] = drop_all index counts ended in
    let added : capped (sum + sum_by (λ count. count) []) ≡ capped (sum_by (λ count. count) counts) = rw none at is in
    omega (arith, fits, added)
