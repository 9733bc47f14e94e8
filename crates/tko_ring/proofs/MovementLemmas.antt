-- The owners of hashes where a pool gains a server: no hash moves but to that server.
use Rattle.std.proofs.Common.{◌∙◌, ◌≡◌, ℕ, suc, ◌+◌, ◌<◌, ◌≤◌, List, [], ◌∷◌, ◌++◌, ◌⊎◌, All, Contains, inl, inr, ap, arith, append_assoc, get_or, length, map, nat_le, refl, sym, subst}
use Rattle.std.specs.List.{position_or_len}
use Rattle.std.specs.List.Sorted.{IsPermutation}
use Rattle.std.proofs.lemmas.Bool.{cases_lt, cond-false, cond-true, leb-false, leb-true, le-ltb, lt-ltb}
use Rattle.std.proofs.lemmas.List.{get_or-map, get_or_default, length-map, map-append}
use Rattle.std.proofs.lemmas.List.Elements.{All-append, All-contains, All-head, All-map, All-nil, All-tail, Contains-get_or}
use Rattle.std.proofs.lemmas.List.Sorted.{All-permutation, IsPermutation-append_comm, IsPermutation-append_right, IsPermutation-sym, IsPermutation-trans}
use Rattle.std.proofs.lemmas.List.Sums.{fails_before_first, passes_at_first}
use Rattle.tko_ring.proofs.OwnerLemmas.{moves_to_the_new_alone, one_owner, permuted}
use Rattle.tko_ring.proofs.RingLemmas.{IsParted, Owns, owns}
use Rattle.tko_ring.specs.Movement.{MovesToJoined, labels_in, place_after}
use Rattle.tko_ring.specs.Points.{point_at, points_from, points_of, point_values}
use Rattle.tko_ring.specs.Rings.{AreInOrder, IsLeastPoint, IsNextPoint, IsNoLater, BelongsTo, IsRing, server_place}
use Rattle.tko_ring.specs.Servers.{NamedServer}
use Rattle.tko_ring.specs.declared.kind.RingKind.{RingKind}
use Rattle.tko_ring.specs.declared.point.Point.{Point}

-- ---- the owner by the order of a ring

-- a hash parts a ring at the first point from it on
parted_at : (ring : List Point) (hash : ℕ) → AreInOrder ring
    → IsParted hash ring (position_or_len (λ p. nat_le hash p.value) ring)
parted_at ring hash ordered =
    let test = λ (p : Point). nat_le hash p.value in (
      λ k d low high. leb-false _ _ (fails_before_first test ring k d high),
      λ k d low inside.
          let at : hash ≤ (get_or ring (position_or_len test ring) d).value = leb-true _ _ (passes_at_first test ring d (omega arith)) in
          omega (arith, at, (ordered (position_or_len test ring) k d low inside).no_higher),
    )

pub place_belongs : (ring : List Point) (hash : ℕ) → AreInOrder ring → 0 < length ring → BelongsTo ring hash (server_place ring hash)
place_belongs ring hash ordered some =
    let at : ℕ = position_or_len (λ p. nat_le hash p.value) ring in
    let d : Point = record { value = 0; place = 0 } in
    let owned : (point : Point) → Owns ring hash point.place → BelongsTo ring hash (server_place ring hash) =
    λ point both. subst (λ (place : ℕ). BelongsTo ring hash place) both.0 both.1 in
    elim (cases_lt at (length ring)) [
      | inl inside ↦ owned (get_or ring at d) (owns ring hash at (get_or ring at d) ordered some (parted_at ring hash ordered)
          (λ below. get_or_default ring at d _ below) (λ past. absurd (omega arith)))
      | inr outside ↦ owned (get_or ring 0 d) (owns ring hash at (get_or ring 0 d) ordered some (parted_at ring hash ordered)
          (λ below. absurd (omega arith)) (λ past. get_or_default ring 0 d _ some))
    ]

-- each point is of a server of the list
points_within : (kind : RingKind) (labels : ℕ → ℕ) (place end : ℕ) (xs : List NamedServer) → place + length xs ≤ end
    → All (λ (p : Point). p.place < end) (points_from kind labels place xs)
unfolding points_from
points_within kind labels place end [] fits = All-nil (λ (p : Point). p.place < end)
points_within kind labels place end (x ∷ xs) fits =
    let values : List ℕ = point_values kind x.name (labels x.weight) in
    All-append (λ (p : Point). p.place < end) (map (point_at place) values) (points_from kind labels (place + 1) xs)
    (All-map (λ (p : Point). p.place < end) (point_at place) values (λ k d inside. omega arith))
    (points_within kind labels (place + 1) end xs (omega arith))

pub place_within : (kind : RingKind) (servers : List NamedServer) (ring : List Point) (hash : ℕ)
    → IsRing (points_of kind servers) ring → 0 < length ring → server_place ring hash < length servers
place_within kind servers ring hash is_ring some =
    let all : All (λ (p : Point). p.place < length servers) ring =
    All-permutation (λ (p : Point). p.place < length servers) (points_of kind servers) ring is_ring.moved
    (points_within kind (labels_in kind servers) 0 (length servers) servers (omega arith)) in
    let belongs = place_belongs ring hash is_ring.ordered some in
    let below : belongs.point.place < length servers = elim belongs.chosen [
      | inl next ↦ All-contains (λ (p : Point). p.place < length servers) ring belongs.point all next.among
      | inr least ↦ All-contains (λ (p : Point). p.place < length servers) ring belongs.point all least.among
    ] in
    subst (λ (n : ℕ). n < length servers) belongs.is below

-- ---- points whose servers another one moved

abbrev shifted : ℕ → Point → Point
shifted joined point = record { value = point.value; place = place_after joined point.place }

kept : (joined place : ℕ) → place < joined → place_after joined place ≡ place
kept joined place below = cond-true _ _ _ (lt-ltb place joined below)

raised : (joined place : ℕ) → joined ≤ place → place_after joined place ≡ place + 1
raised joined place above = cond-false _ _ _ (le-ltb place joined above)

-- places keep their order
place_back : (joined a b : ℕ) → place_after joined a ≤ place_after joined b → a ≤ b
place_back joined a b le = elim (cases_lt a joined) [
  | inl low ↦ elim (cases_lt b joined) [
    | inl below ↦ omega (arith, le, kept joined a low, kept joined b below)
    | inr above ↦ omega (arith, low, above)
  ]
  | inr high ↦ elim (cases_lt b joined) [
    | inl below ↦ omega (arith, le, raised joined a high, kept joined b below)
    | inr above ↦ omega (arith, le, raised joined a high, raised joined b above)
  ]
]

unshifted : (joined : ℕ) (x y : Point) → IsNoLater (shifted joined x) (shifted joined y) → IsNoLater x y
unshifted joined x y later = record {
  no_higher = later.no_higher;
  tie = λ e. place_back joined x.place y.place (later.tie e);
}

all_back : (P : Point → Type 0) (f : Point → Point) (points : List Point) → All P (map f points)
    → All (λ (p : Point). P (f p)) points
all_back P f points all k d inside =
    subst P (get_or-map f points k d (f d) inside) (all k (f d) (rw (length-map points f) inside))

among_back : (f : Point → Point) (points : List Point) (y : Point) → Contains (map f points) y
    → (x : Point) × (Contains points x × (f x ≡ y))
among_back f points y among =
    let d : Point = record { value = 0; place = 0 } in
    let inside : among.0 < length points = rw (sym (length-map points f)) among.1 in (
      get_or points among.0 d,
      (
        Contains-get_or points among.0 d inside,
        sym (get_or-map f points among.0 d y inside) ∙ among.2,
      ),
    )

next_back : (joined hash : ℕ) (points : List Point) (x : Point) → Contains points x
    → IsNextPoint (map (shifted joined) points) hash (shifted joined x) → IsNextPoint points hash x
next_back joined hash points x among next = record {
  among = among;
  reached = next.reached;
  nearest = λ k d inside reached.
      unshifted joined x _ (all_back (λ (other : Point). hash ≤ other.value → IsNoLater (shifted joined x) other) (shifted joined) points next.nearest k d inside reached);
}

least_back : (joined hash : ℕ) (points : List Point) (x : Point) → Contains points x
    → IsLeastPoint (map (shifted joined) points) hash (shifted joined x) → IsLeastPoint points hash x
least_back joined hash points x among least = record {
  among = among;
  passed = all_back (λ (other : Point). other.value < hash) (shifted joined) points least.passed;
  nearest = λ k d inside.
      unshifted joined x _ (all_back (IsNoLater (shifted joined x)) (shifted joined) points least.nearest k d inside);
}

-- the owner before the places were moved
owner_back : (joined hash place : ℕ) (points : List Point) → BelongsTo (map (shifted joined) points) hash place
    → (p : ℕ) × (BelongsTo points hash p × (place ≡ place_after joined p))
owner_back joined hash place points owner = elim owner.chosen [
  | inl next ↦
      let x = among_back (shifted joined) points owner.point next.among in
      let next' = subst (λ (p : Point). IsNextPoint (map (shifted joined) points) hash p) (sym x.1.1) next in
      (x.0.place, (record { point = x.0; chosen = inl (next_back joined hash points x.0 x.1.0 next'); is = refl }, sym owner.is ∙ ap (λ (p : Point). p.place) (sym x.1.1)))
  | inr least ↦
      let x = among_back (shifted joined) points owner.point least.among in
      let least' = subst (λ (p : Point). IsLeastPoint (map (shifted joined) points) hash p) (sym x.1.1) least in
      (x.0.place, (record { point = x.0; chosen = inr (least_back joined hash points x.0 x.1.0 least'); is = refl }, sym owner.is ∙ ap (λ (p : Point). p.place) (sym x.1.1)))
]

-- ---- the points of a list of servers

points-append : (kind : RingKind) (labels : ℕ → ℕ) (place : ℕ) (xs ys : List NamedServer)
    → points_from kind labels place (xs ++ ys) ≡ points_from kind labels place xs ++ points_from kind labels (place + length xs) ys
unfolding points_from
points-append kind labels place [] ys =
    let e : place ≡ place + 0 = omega arith in ap (λ (n : ℕ). points_from kind labels n ys) e
points-append kind labels place (x ∷ xs) ys =
    let drawn : List Point = map (point_at place) (point_values kind x.name (labels x.weight)) in
    let e : place + 1 + length xs ≡ place + suc (length xs) = omega arith in
    ap (λ (l : List Point). drawn ++ l) (points-append kind labels (place + 1) xs ys)
    ∙ ap (λ (n : ℕ). drawn ++ (points_from kind labels (place + 1) xs ++ points_from kind labels n ys)) e
    ∙ sym (append_assoc drawn (points_from kind labels (place + 1) xs) (points_from kind labels (place + suc (length xs)) ys))

points-same : (kind : RingKind) (labels others : ℕ → ℕ) (place : ℕ) (xs : List NamedServer)
    → All (λ (s : NamedServer). labels s.weight ≡ others s.weight) xs
    → points_from kind labels place xs ≡ points_from kind others place xs
unfolding points_from
points-same kind labels others place [] same = refl
points-same kind labels others place (x ∷ xs) same =
    let P : NamedServer → Type 0 = λ (s : NamedServer). labels s.weight ≡ others s.weight in
    ap (λ (n : ℕ). map (point_at place) (point_values kind x.name n) ++ points_from kind labels (place + 1) xs) (All-head P x xs same)
    ∙ ap (λ (l : List Point). map (point_at place) (point_values kind x.name (others x.weight)) ++ l) (points-same kind labels others (place + 1) xs (All-tail P x xs same))

shifted-points : (joined place to : ℕ) (values : List ℕ) → place_after joined place ≡ to
    → map (shifted joined) (map (point_at place) values) ≡ map (point_at to) values
shifted-points joined place to [] is = refl
shifted-points joined place to (v ∷ values) is =
    ap (λ (n : ℕ). point_at n v ∷ map (shifted joined) (map (point_at place) values)) is
    ∙ ap (λ (l : List Point). point_at to v ∷ l) (shifted-points joined place to values is)

shifted-below : (kind : RingKind) (labels : ℕ → ℕ) (joined place : ℕ) (xs : List NamedServer) → place + length xs ≤ joined
    → map (shifted joined) (points_from kind labels place xs) ≡ points_from kind labels place xs
unfolding points_from
shifted-below kind labels joined place [] below = refl
shifted-below kind labels joined place (x ∷ xs) below =
    let values : List ℕ = point_values kind x.name (labels x.weight) in
    let rest : List Point = points_from kind labels (place + 1) xs in
    map-append (shifted joined) (map (point_at place) values) rest
    ∙ ap (λ (l : List Point). l ++ map (shifted joined) rest) (shifted-points joined place place values (kept joined place (omega arith)))
    ∙ ap (λ (l : List Point). map (point_at place) values ++ l) (shifted-below kind labels joined (place + 1) xs (omega arith))

shifted-above : (kind : RingKind) (labels : ℕ → ℕ) (joined place : ℕ) (xs : List NamedServer) → joined ≤ place
    → map (shifted joined) (points_from kind labels place xs) ≡ points_from kind labels (place + 1) xs
unfolding points_from
shifted-above kind labels joined place [] above = refl
shifted-above kind labels joined place (x ∷ xs) above =
    let values : List ℕ = point_values kind x.name (labels x.weight) in
    let rest : List Point = points_from kind labels (place + 1) xs in
    map-append (shifted joined) (map (point_at place) values) rest
    ∙ ap (λ (l : List Point). l ++ map (shifted joined) rest) (shifted-points joined place (place + 1) values (raised joined place above))
    ∙ ap (λ (l : List Point). map (point_at (place + 1)) values ++ l) (shifted-above kind labels joined (place + 1) xs (omega arith))

-- ---- the law

-- the points of a pool that gained a server are the moved ones of the others, and its own
gained_points : (kind : RingKind) (labels : ℕ → ℕ) (before : List NamedServer) (joined : NamedServer) (after : List NamedServer)
    → IsPermutation (points_from kind labels 0 (before ++ joined ∷ after))
    (map (shifted (length before)) (points_from kind labels 0 (before ++ after))
    ++ map (point_at (length before)) (point_values kind joined.name (labels joined.weight)))
unfolding points_from
gained_points kind labels before joined after =
    let at : ℕ = length before in
    let zero-at : 0 + at ≡ at = omega arith in
    let front : List Point = points_from kind labels 0 before in
    let own : List Point = map (point_at at) (point_values kind joined.name (labels joined.weight)) in
    let moved : List Point = points_from kind labels (at + 1) after in
    let whole : points_from kind labels 0 (before ++ joined ∷ after) ≡ front ++ (own ++ moved) =
    points-append kind labels 0 before (joined ∷ after)
    ∙ ap (λ (n : ℕ). front ++ points_from kind labels n (joined ∷ after)) zero-at in
    let others : map (shifted at) (points_from kind labels 0 (before ++ after)) ≡ front ++ moved =
    ap (map (shifted at)) (points-append kind labels 0 before after ∙ ap (λ (n : ℕ). front ++ points_from kind labels n after) zero-at)
    ∙ map-append (shifted at) front (points_from kind labels at after)
    ∙ ap (λ (l : List Point). l ++ map (shifted at) (points_from kind labels at after)) (shifted-below kind labels at 0 before (omega arith))
    ∙ ap (λ (l : List Point). front ++ l) (shifted-above kind labels at at after (omega arith)) in
    let turned : IsPermutation (front ++ (own ++ moved)) (front ++ (moved ++ own)) =
    IsPermutation-append_right front (own ++ moved) (moved ++ own) (IsPermutation-append_comm own moved) in
    let last : front ++ (moved ++ own) ≡ map (shifted at) (points_from kind labels 0 (before ++ after)) ++ own =
    sym (append_assoc front moved own) ∙ ap (λ (l : List Point). l ++ own) (sym others) in
    subst (λ (l : List Point). IsPermutation l (map (shifted at) (points_from kind labels 0 (before ++ after)) ++ own)) (sym whole)
    (subst (λ (l : List Point). IsPermutation (front ++ (own ++ moved)) l) last turned)

all_joined : (at : ℕ) (values : List ℕ) → All (λ (p : Point). p.place ≡ at) (map (point_at at) values)
all_joined at values = All-map (λ (p : Point). p.place ≡ at) (point_at at) values (λ k d inside. refl)

owned_some : (ring : List Point) (hash place : ℕ) → BelongsTo ring hash place → 0 < length ring
owned_some ring hash place owner = elim owner.chosen [
  | inl next ↦ omega (arith, next.among.1)
  | inr least ↦ omega (arith, least.among.1)
]

-- the owner in a ring of a pool that gained a server, by lists
moves_by : (kind : RingKind) (labels : ℕ → ℕ) (before : List NamedServer) (joined : NamedServer) (after : List NamedServer)
    (ring smaller : List Point) (hash : ℕ) → AreInOrder ring → 0 < length ring
    → IsPermutation (points_from kind labels 0 (before ++ joined ∷ after)) ring
    → IsRing (points_from kind labels 0 (before ++ after)) smaller
    → (server_place ring hash ≡ length before) ⊎ (server_place ring hash ≡ place_after (length before) (server_place smaller hash))
moves_by kind labels before joined after ring smaller hash ordered some larger is_smaller =
    let at : ℕ = length before in
    let others : List Point = points_from kind labels 0 (before ++ after) in
    let own : List Point = map (point_at at) (point_values kind joined.name (labels joined.weight)) in
    let place : ℕ = server_place ring hash in
    let back : IsPermutation ring (map (shifted at) others ++ own) =
    IsPermutation-trans ring (points_from kind labels 0 (before ++ joined ∷ after)) (map (shifted at) others ++ own)
    (IsPermutation-sym (points_from kind labels 0 (before ++ joined ∷ after)) ring larger) (gained_points kind labels before joined after) in
    let owner : BelongsTo (map (shifted at) others ++ own) hash place =
    permuted ring (map (shifted at) others ++ own) hash place back (place_belongs ring hash ordered some) in
    elim (moves_to_the_new_alone (map (shifted at) others) own hash place at (all_joined at (point_values kind joined.name (labels joined.weight))) owner) [
      | inl new ↦ inl new
      | inr old ↦
          let was = owner_back at hash place others old in
          let then' : BelongsTo smaller hash was.0 = permuted others smaller hash was.0 is_smaller.moved was.1.0 in
          let same : was.0 ≡ server_place smaller hash =
          one_owner smaller hash was.0 (server_place smaller hash) then' (place_belongs smaller hash is_smaller.ordered (owned_some smaller hash was.0 then')) in
          inr (was.1.1 ∙ ap (place_after at) same)
    ]

pub moves_to_joined : (kind : RingKind) (servers : List NamedServer) (ring : List Point) → IsRing (points_of kind servers) ring
    → 0 < length ring → MovesToJoined kind servers ring
moves_to_joined kind servers ring is_ring some fewer place smaller hash gained is_smaller =
    let labels : ℕ → ℕ = labels_in kind servers in
    let all : List NamedServer = gained.before ++ gained.after in
    let larger : IsPermutation (points_from kind labels 0 (gained.before ++ gained.joined ∷ gained.after)) ring =
    subst (λ (l : List NamedServer). IsPermutation (points_from kind labels 0 l) ring) gained.is is_ring.moved in
    let points : points_of kind fewer ≡ points_from kind labels 0 all =
    ap (points_from kind (labels_in kind fewer) 0) gained.was ∙ sym (points-same kind labels (labels_in kind fewer) 0 all gained.same) in
    let was : IsRing (points_from kind labels 0 all) smaller = subst (λ (l : List Point). IsRing l smaller) points is_smaller in
    subst (λ (n : ℕ). (server_place ring hash ≡ n) ⊎ (server_place ring hash ≡ place_after n (server_place smaller hash))) (sym gained.at)
    (moves_by kind labels gained.before gained.joined gained.after ring smaller hash is_ring.ordered some larger was)
