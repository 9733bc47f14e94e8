-- A hash has one owner; a pool that gains a server gives hashes to that server alone; an order of the
-- points does not matter.
use Rattle.std.proofs.Common.{◌∙◌, ◌≡◌, ℕ, ◌<◌, ◌≤◌, List, ◌++◌, length, All, Contains, arith, inl, inr, sym, subst, length-append, ◌⊎◌}
use Rattle.std.specs.List.Sorted.{IsPermutation}
use Rattle.std.proofs.lemmas.List.Elements.{All-contains, Contains-append_cases}
use Rattle.std.proofs.lemmas.List.{get_or_append_left}
use Rattle.std.proofs.lemmas.List.Sorted.{All-permutation, Contains-permutation, IsPermutation-sym}
use Rattle.tko_ring.specs.declared.point.Point.{Point}
use Rattle.tko_ring.specs.Rings.{IsLeastPoint, IsNextPoint, IsNoLater, BelongsOnlyTo, BelongsTo}

same_place : (p q : Point) → IsNoLater p q → IsNoLater q p → p.place ≡ q.place
same_place p q one other =
    let value : p.value ≡ q.value = omega (arith, one.no_higher, other.no_higher) in
    omega (arith, one.tie value, other.tie (sym value))

one_point : (points : List Point) (hash : ℕ) (p q : Point)
    → IsNextPoint points hash p ⊎ IsLeastPoint points hash p → IsNextPoint points hash q ⊎ IsLeastPoint points hash q → p.place ≡ q.place
one_point points hash p q (inl a) (inl b) =
    same_place p q
    (All-contains (λ other. hash ≤ other.value → IsNoLater p other) points q a.nearest b.among b.reached)
    (All-contains (λ other. hash ≤ other.value → IsNoLater q other) points p b.nearest a.among a.reached)
one_point points hash p q (inl a) (inr b) =
    absurd (omega (arith, a.reached, All-contains (λ (other : Point). other.value < hash) points p b.passed a.among))
one_point points hash p q (inr a) (inl b) =
    absurd (omega (arith, b.reached, All-contains (λ (other : Point). other.value < hash) points q a.passed b.among))
one_point points hash p q (inr a) (inr b) =
    same_place p q
    (All-contains (IsNoLater p) points q a.nearest b.among)
    (All-contains (IsNoLater q) points p b.nearest a.among)

-- a hash belongs to one server
pub one_owner : (points : List Point) (hash a b : ℕ) → BelongsTo points hash a → BelongsTo points hash b → a ≡ b
one_owner points hash a b one other =
    sym one.is ∙ one_point points hash one.point other.point one.chosen other.chosen ∙ other.is

all_front : (P : Point → Type 0) (xs ys : List Point) → All P (xs ++ ys) → All P xs
all_front P xs ys all k d within =
    let longer : k < length (xs ++ ys) = rw (length-append xs ys) (omega arith) in
    subst P (get_or_append_left xs ys d k within) (all k d longer)

-- where further points are all of one server, each hash belongs to it or to whom it belonged before
pub moves_to_the_new_alone : (points added : List Point) (hash place new : ℕ)
    → All (λ (point : Point). point.place ≡ new) added
    → BelongsTo (points ++ added) hash place → (place ≡ new) ⊎ BelongsTo points hash place
moves_to_the_new_alone points added hash place new all_new owner =
    let of_new = λ (at : Contains added owner.point). sym owner.is ∙ All-contains (λ (p : Point). p.place ≡ new) added owner.point all_new at in
    elim owner.chosen [
      | inl a ↦ elim (Contains-append_cases points added owner.point a.among) [
        | inl at ↦ inr (record {
          point = owner.point;
          chosen = inl (record {
            among = at;
            reached = a.reached;
            nearest = all_front (λ other. hash ≤ other.value → IsNoLater owner.point other) points added a.nearest;
          });
          is = owner.is;
        })
        | inr at ↦ inl (of_new at)
      ]
      | inr a ↦ elim (Contains-append_cases points added owner.point a.among) [
        | inl at ↦ inr (record {
          point = owner.point;
          chosen = inr (record {
            among = at;
            passed = all_front (λ other. other.value < hash) points added a.passed;
            nearest = all_front (IsNoLater owner.point) points added a.nearest;
          });
          is = owner.is;
        })
        | inr at ↦ inl (of_new at)
      ]
    ]

-- points in another order have the same owners
pub permuted : (xs ys : List Point) (hash place : ℕ) → IsPermutation xs ys → BelongsTo xs hash place → BelongsTo ys hash place
permuted xs ys hash place moved owner = record {
  point = owner.point;
  chosen = elim owner.chosen [
    | inl a ↦ inl (record {
      among = Contains-permutation xs ys owner.point moved a.among;
      reached = a.reached;
      nearest = All-permutation (λ (other : Point). hash ≤ other.value → IsNoLater owner.point other) xs ys moved a.nearest;
    })
    | inr a ↦ inr (record {
      among = Contains-permutation xs ys owner.point moved a.among;
      passed = All-permutation (λ (other : Point). other.value < hash) xs ys moved a.passed;
      nearest = All-permutation (IsNoLater owner.point) xs ys moved a.nearest;
    })
  ];
  is = owner.is;
}

-- in whatever order the points are, their owner is the only one
pub only_owner : (ring : List Point) (hash owner : ℕ) → BelongsTo ring hash owner → BelongsOnlyTo ring hash owner
only_owner ring hash owner is points place moved = (
  λ other. one_owner ring hash place owner (permuted points ring hash place moved other) is,
  λ same. subst (λ (p : ℕ). BelongsTo points hash p) (sym same)
      (permuted ring points hash owner (IsPermutation-sym points ring moved) is),
)
