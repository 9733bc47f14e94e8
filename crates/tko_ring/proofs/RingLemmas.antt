-- Points in order, and the point that a hash belongs to.
use Rattle.std.proofs.Common.{◌∙◌, ◌≡◌, ℕ, ◌<◌, ◌≤◌, false, List, length, find, get_or, option_map, slice_get, unwrap_or, Option, Some, None, nat_le, ap, arith, refl, inl, inr, sym, subst, Ordering, Less, Equal, Greater, nat_cmp, is_lt, le-leb}
use Rattle.std.specs.List.Sorted.{IsSorted, IsNonDecreasingBy, IsPartitionPoint, IsPermutation}
use Rattle.std.specs.Option.{option_or}
use Rattle.std.specs.Ordering.{ordering_then, MatchOrdering}
use Rattle.std.specs.Cmp.{IsTotalOrder}
use Rattle.std.proofs.lemmas.Bool.{cases_lt, lt-leb}
use Rattle.std.proofs.lemmas.Cmp.{nat_cmp_total, on_total, then_total, ranked}
use Rattle.std.proofs.lemmas.List.{get_or_default}
use Rattle.std.proofs.lemmas.List.Folds.{find_at}
use Rattle.std.proofs.lemmas.List.Sorted.{sorted_far, ranks_by}
use Rattle.std.proofs.lemmas.List.Sums.{position_or_len_is}
use Rattle.std.proofs.lemmas.Option.{slice_get_past, slice_get_read}
use Rattle.tko_ring.specs.declared.point.Point.{Point}
use Rattle.tko_ring.specs.Rings.{AreInOrder, IsLeastPoint, IsNextPoint, IsNoLater, IsRing, BelongsTo, server_place}

-- the order of points
abbrev pub point_cmp : Point → Point → Ordering
point_cmp x y = ordering_then (nat_cmp x.value y.value) (nat_cmp x.place y.place)

point_cmp_total : IsTotalOrder point_cmp
point_cmp_total =
    then_total (on_total (λ (p : Point). p.value) nat_cmp_total) (on_total (λ (p : Point). p.place) nat_cmp_total)

-- what is not after comes no later
no_later_by : (a b c d : ℕ) (v p : Ordering)
    → MatchOrdering v (a < b) (a ≡ b) (b < a) → MatchOrdering p (c < d) (c ≡ d) (d < c)
    → is_lt (ordering_then v p) ≡ false → (b ≤ a) × (b ≡ a → d ≤ c)
no_later_by a b c d Less p vs ps h = absurd (grind (arith, h))
no_later_by a b c d Equal Less vs ps h = absurd (grind (arith, h))
no_later_by a b c d Equal Equal vs ps h = (omega arith, λ e. omega arith)
no_later_by a b c d Equal Greater vs ps h = (omega arith, λ e. omega arith)
no_later_by a b c d Greater p vs ps h = (omega arith, λ e. absurd (omega arith))

no_later : (x y : Point) → is_lt (point_cmp y x) ≡ false → IsNoLater x y
no_later x y h =
    let both = no_later_by y.value x.value y.place x.place (nat_cmp y.value x.value) (nat_cmp y.place x.place) (ranked y.value x.value _ refl) (ranked y.place x.place _ refl) h in
    record { no_higher = both.0; tie = both.1 }

in_order : (points : List Point) → IsSorted point_cmp points → AreInOrder points
in_order points sorted i j d below within =
    no_later _ _ (sorted_far _ (ranks_by point_cmp_total (λ (p : Point). p)) points sorted i j d below within)

pub is_ring : (points ring : List Point) → IsPermutation points ring → IsSorted point_cmp ring → IsRing points ring
is_ring points ring moved sorted = record { moved = moved; ordered = in_order ring sorted }

pub values_rise : (points : List Point) → AreInOrder points → IsNonDecreasingBy (λ (p : Point). p.value) points
values_rise points ordered i j d below within = (ordered i j d below within).no_higher

-- a hash parts these points here
abbrev pub IsParted : ℕ → List Point → ℕ → Type 0
IsParted hash points at = IsPartitionPoint (λ (p : Point). p.value < hash) (λ (p : Point). hash ≤ p.value) points at

-- what is read at a place comes no later than what lies there or beyond
no_later_than : (points : List Point) (i k : ℕ) (point d : Point) → AreInOrder points
    → point ≡ get_or points i point → i ≤ k → k < length points → IsNoLater point (get_or points k d)
no_later_than points i k point d ordered is below within =
    subst (λ (p : Point). IsNoLater p (get_or points k d)) (get_or_default points i d point (omega arith) ∙ sym is) (ordered i k d below within)

-- the point at which an ordered list is parted by a hash
next_at : (points : List Point) (hash at : ℕ) (point : Point) → AreInOrder points
    → IsParted hash points at → at < length points → point ≡ get_or points at point
    → IsNextPoint points hash point
next_at points hash at point ordered parted within is = record {
  among = (at, within, sym is);
  reached = subst (λ (p : Point). hash ≤ p.value) (sym is) (parted.1 at point (omega arith) within);
  nearest = λ k d inside reached. elim (cases_lt k at) [
    | inl before ↦ absurd (let low : (get_or points k d).value < hash = parted.0 k d (omega arith) before in omega arith)
    | inr after ↦ no_later_than points at k point d ordered is after inside
  ];
}

-- the first point, where a hash lies above all
first_of_all : (points : List Point) (hash at : ℕ) (point : Point) → AreInOrder points
    → IsParted hash points at → length points ≤ at → 0 < length points → point ≡ get_or points 0 point
    → IsLeastPoint points hash point
first_of_all points hash at point ordered parted past some is = record {
  among = (0, some, sym is);
  passed = λ k d inside. parted.0 k d (omega arith) (omega arith);
  nearest = λ k d inside. no_later_than points 0 k point d ordered is (omega arith) inside;
}

abbrev owner_by : List Point → Option Point → ℕ
owner_by points found =
    unwrap_or (option_map (λ (p : Point). p.place) (option_or found (slice_get points 0))) 0

-- where a hash parts the points, the first from it on is found
found_at : (points : List Point) (hash at : ℕ) (point : Point) → IsParted hash points at
    → at < length points → point ≡ get_or points at point → find (λ p. nat_le hash p.value) points ≡ Some point
found_at points hash at point parted within is =
    find_at (λ p. nat_le hash p.value) points
    ∙ ap (slice_get points) (position_or_len_is (λ p. nat_le hash p.value) points at point (omega arith)
    (λ k below. lt-leb _ _ (parted.0 k point (omega arith) below))
    (λ inside. le-leb _ _ (parted.1 at point (omega arith) inside)))
    ∙ slice_get_read points (length points) at point refl within is

-- where all points are below it, none is found
found_none : (points : List Point) (hash at : ℕ) (point : Point) → IsParted hash points at
    → length points ≤ at → find (λ p. nat_le hash p.value) points ≡ None
found_none points hash at point parted past =
    find_at (λ p. nat_le hash p.value) points
    ∙ ap (slice_get points) (position_or_len_is (λ p. nat_le hash p.value) points (length points) point (omega arith)
    (λ k below. lt-leb _ _ (parted.0 k point (omega arith) (omega arith)))
    (λ inside. absurd (omega arith)))
    ∙ slice_get_past points (length points) (omega arith)

-- the point at which a hash parts the points, or else the first one, is its owner's
abbrev pub Owns : List Point → ℕ → ℕ → Type 0
Owns points hash place = (place ≡ server_place points hash) × BelongsTo points hash place

pub owns : (points : List Point) (hash at : ℕ) (point : Point) → AreInOrder points → 0 < length points
    → IsParted hash points at
    → (at < length points → point ≡ get_or points at point)
    → (length points ≤ at → point ≡ get_or points 0 point)
    → Owns points hash point.place
unfolding server_place
owns points hash at point ordered some parted within past = elim (cases_lt at (length points)) [
  | inl inside ↦ (
    sym (ap (owner_by points) (found_at points hash at point parted inside (within inside))),
    record { point = point; chosen = inl (next_at points hash at point ordered parted inside (within inside)); is = refl },
  )
  | inr outside ↦
      let first = slice_get_read points (length points) 0 point refl some (past outside) in (
        sym (ap (owner_by points) (found_none points hash at point parted outside)
            ∙ ap (λ f. unwrap_or (option_map (λ (p : Point). p.place) f) 0) first),
        record { point = point; chosen = inr (first_of_all points hash at point ordered parted outside some (past outside)); is = refl },
      )
]

-- the same of slices of the points
pub owns_in : (value points one other : List Point) (hash at : ℕ) (point : Point)
    → points ≡ value → one ≡ points → other ≡ points → AreInOrder points → 0 < length points
    → IsParted hash other at
    → (at < length one → point ≡ get_or one at point)
    → (length one ≤ at → point ≡ get_or one 0 point)
    → Owns value hash point.place
owns_in value points one other hash at point is_value is_one is_other ordered some parted within past =
    subst (λ (l : List Point). Owns l hash point.place) is_value
    (owns points hash at point ordered some (subst (λ (l : List Point). IsParted hash l at) is_other parted)
    (subst (λ (l : List Point). at < length l → point ≡ get_or l at point) is_one within)
    (subst (λ (l : List Point). length l ≤ at → point ≡ get_or l 0 point) is_one past))
