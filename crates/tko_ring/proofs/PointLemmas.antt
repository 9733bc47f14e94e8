-- The points of one label more, and of one server more; and that a pool has one.
use Rattle.std.proofs.Common.{◌∙◌, ◌≡◌, ℕ, zero, suc, ◌+◌, ◌*◌, ◌^◌, ◌<◌, ◌≤◌, List, [], ◌∷◌, ◌++◌, ◌⊎◌, inl, inr, ap, sym, subst, arith, append-nil, append_assoc, length, map, All, get_or, drop, length-append}
use Rattle.std.proofs.Math.Nat.{mul-le-mul_right}
use Rattle.std.specs.List.{flat_map, range_with_len}
use Rattle.std.proofs.lemmas.Bool.{cases_lt}
use Rattle.std.proofs.lemmas.Grind.{flat_map-append}
use Rattle.std.proofs.lemmas.List.{drop_all, drop_more, get_or_default, length-map, map-append, map-id}
use Rattle.std.proofs.lemmas.List.Elements.{All-head, All-tail}
use Rattle.std.proofs.lemmas.List.FromFn.{map-range_with_len_more}
use Rattle.std.proofs.lemmas.List.Sums.{get_or-le-sum_by, sum_by-cons}
use Rattle.tko_ring.proofs.DigestLemmas.{digests_some}
use Rattle.tko_ring.specs.Points.{label, labels_of, point_at, points_from, points_of, values_at, point_values}
use Rattle.tko_ring.specs.Servers.{AreWeighed, NamedServer, total_weight}
use Rattle.tko_ring.specs.declared.kind.RingKind.{RingKind}
use Rattle.tko_ring.specs.declared.kind.RingKind.TheVariants as kind
use Rattle.tko_ring.specs.declared.point.Point.{Point}

range_more : (n : ℕ) → range_with_len 0 (n + 1) ≡ range_with_len 0 n ++ n ∷ []
range_more n =
    sym (map-id (range_with_len 0 (n + 1))) ∙ map-range_with_len_more (λ x. x) 0 n n (omega arith)
    ∙ ap (λ (l : List ℕ). l ++ n ∷ []) (map-id (range_with_len 0 n))

values_more : (kind : RingKind) (name : List ℕ) (n : ℕ)
    → point_values kind name (n + 1) ≡ point_values kind name n ++ values_at kind (label name n)
unfolding point_values
values_more kind name n =
    let at : ℕ → List ℕ = λ number. values_at kind (label name number) in
    ap (λ (l : List ℕ). flat_map at l) (range_more n)
    ∙ flat_map-append at (range_with_len 0 n) (n ∷ [])
    ∙ ap (λ (l : List ℕ). point_values kind name n ++ l) (append-nil (at n))

-- no label gives no points
pub points_none : (kind : RingKind) (name : List ℕ) (place : ℕ) (start : List Point)
    → start ≡ start ++ map (point_at place) (point_values kind name 0)
unfolding point_values
points_none kind name place start = sym (append-nil start)

-- the points of one label more
pub points_pushed : (kind : RingKind) (name text : List ℕ) (place n : ℕ) (start before after : List Point)
    → text ≡ label name n
    → before ≡ start ++ map (point_at place) (point_values kind name n)
    → after ≡ before ++ map (point_at place) (values_at kind text)
    → after ≡ start ++ map (point_at place) (point_values kind name (n + 1))
points_pushed kind name text place n start before after is_label so_far pushed =
    let at = point_at place in
    let more : map at (point_values kind name (n + 1)) ≡ map at (point_values kind name n) ++ map at (values_at kind (label name n)) =
    ap (map at) (values_more kind name n) ∙ map-append at (point_values kind name n) (values_at kind (label name n)) in
    pushed ∙ ap (λ (t : List ℕ). before ++ map at (values_at kind t)) is_label
    ∙ ap (λ (l : List Point). l ++ map at (values_at kind (label name n))) so_far
    ∙ append_assoc start (map at (point_values kind name n)) (map at (values_at kind (label name n)))
    ∙ ap (λ (l : List Point). start ++ l) (sym more)

-- the points of one server more
pub servers_more : (kind : RingKind) (labels : ℕ → ℕ) (place : ℕ) (servers : List NamedServer) (d : NamedServer)
    (points before after : List Point) → place < length servers
    → before ++ points_from kind labels place (drop place servers) ≡ points
    → after ≡ before
    ++ map (point_at place) (point_values kind (get_or servers place d).name (labels (get_or servers place d).weight))
    → after ++ points_from kind labels (place + 1) (drop (place + 1) servers) ≡ points
unfolding points_from
servers_more kind labels place servers d points before after within so_far added =
    let one = get_or servers place d in
    let drawn : List Point = map (point_at place) (point_values kind one.name (labels one.weight)) in
    let left = points_from kind labels (place + 1) (drop (place + 1) servers) in
    ap (λ (l : List Point). l ++ left) added ∙ append_assoc before drawn left
    ∙ ap (λ (l : List NamedServer). before ++ points_from kind labels place l) (sym (drop_more servers place d within))
    ∙ so_far

-- the points where no server is left
pub servers_all : (kind : RingKind) (labels : ℕ → ℕ) (place : ℕ) (servers : List NamedServer) (points drawn : List Point)
    → length servers ≤ place → drawn ++ points_from kind labels place (drop place servers) ≡ points → drawn ≡ points
unfolding points_from
servers_all kind labels place servers points drawn past so_far =
    sym (append-nil drawn)
    ∙ ap (λ (l : List NamedServer). drawn ++ points_from kind labels place l) (sym (drop_all place servers past)) ∙ so_far

-- ---- pools

-- there are no more servers than weight
pub few : (servers : List NamedServer) → All (λ (s : NamedServer). 0 < s.weight) servers
    → length servers ≤ total_weight servers
few [] each = omega arith
few (s ∷ rest) each =
    let weight : 0 < s.weight = All-head (λ (s : NamedServer). 0 < s.weight) s rest each in
    let sum : total_weight (s ∷ rest) ≡ s.weight + total_weight rest = sum_by-cons (λ (s : NamedServer). s.weight) s rest in
    omega (arith, weight, sum, few rest (All-tail (λ (s : NamedServer). 0 < s.weight) s rest each))

-- some server has as much weight as the servers have each
abbrev pub HasHeavy : List NamedServer → Type 0
HasHeavy servers = (i : ℕ) × (i < length servers)
    × ((d : NamedServer) → total_weight servers ≤ (get_or servers i d).weight * length servers)

heavy_by : (s d : NamedServer) (rest : List NamedServer) (i : ℕ) → i < length rest
    → ((d : NamedServer) → total_weight rest ≤ (get_or rest i d).weight * length rest)
    → s.weight < (get_or rest i s).weight ⊎ (get_or rest i s).weight ≤ s.weight
    → HasHeavy (s ∷ rest)
heavy_by s d rest i within heavy (inl lighter) = (
  suc i,
  omega arith,
  λ d.
      let same : (get_or rest i s).weight ≡ (get_or rest i d).weight = ap (λ (x : NamedServer). x.weight) (get_or_default rest i s d within) in
      let sum : total_weight (s ∷ rest) ≡ s.weight + total_weight rest = sum_by-cons (λ (s : NamedServer). s.weight) s rest in
      subst (λ (w : ℕ). total_weight (s ∷ rest) ≤ w * suc (length rest)) same (omega (arith, sum, heavy s, lighter)),
)
heavy_by s d rest i within heavy (inr heavier) = (
  0,
  omega arith,
  λ d.
      let sum : total_weight (s ∷ rest) ≡ s.weight + total_weight rest = sum_by-cons (λ (s : NamedServer). s.weight) s rest in
      omega (arith, sum, heavy s, mul-le-mul_right (length rest) heavier),
)

pub heavy : (s : NamedServer) (rest : List NamedServer) → HasHeavy (s ∷ rest)
heavy s [] = (0, omega arith, λ d. omega (arith, sum_by-cons (λ (s : NamedServer). s.weight) s []))
heavy s (next ∷ rest) =
    let h = heavy next rest in
    heavy_by s s (next ∷ rest) h.0 h.1 h.2 (cases_lt s.weight (get_or (next ∷ rest) h.0 s).weight)

-- a label gives a point
values_some : (kind : RingKind) (name : List ℕ) (labels : ℕ) → 0 < labels → 0 < length (point_values kind name labels)
unfolding point_values
values_some kind name zero some = absurd (omega arith)
values_some kind.Ketama name (suc n) some = omega arith
values_some (kind.Consistent hash) name (suc n) some = omega arith

-- a server with a label has a point
points_some : (kind : RingKind) (labels : ℕ → ℕ) (place : ℕ) (servers : List NamedServer) (i : ℕ)
    → i < length servers → ((d : NamedServer) → 0 < labels (get_or servers i d).weight)
    → 0 < length (points_from kind labels place servers)
unfolding points_from
points_some kind labels place [] i within some = absurd (omega arith)
points_some kind labels place (s ∷ rest) zero within some =
    let values = point_values kind s.name (labels s.weight) in
    omega (arith, length-append (map (point_at place) values) (points_from kind labels (place + 1) rest), length-map values (point_at place), values_some kind s.name (labels s.weight) (some s))
points_some kind labels place (s ∷ rest) (suc i) within some =
    let drawn = map (point_at place) (point_values kind s.name (labels s.weight)) in
    omega (arith, length-append drawn (points_from kind labels (place + 1) rest), points_some kind labels (place + 1) rest i (omega arith) some)

labels_some : (kind : RingKind) (weight total servers : ℕ) → 0 < weight → weight ≤ total → total ≤ 2 ^ 24
    → total ≤ weight * servers → 0 < labels_of kind weight total servers
labels_some kind.Ketama weight total servers some within few heavy = digests_some weight total servers some within few heavy
labels_some (kind.Consistent hash) weight total servers some within few heavy = omega arith

pub pool_some : (kind : RingKind) (servers : List NamedServer) → AreWeighed servers → 0 < length (points_of kind servers)
pool_some kind [] weighed = absurd (omega (arith, weighed.some))
pool_some kind (s ∷ rest) weighed =
    let servers : List NamedServer = s ∷ rest in
    let h = heavy s rest in
    let total : ℕ = total_weight servers in
    points_some kind (λ weight. labels_of kind weight total (length servers)) 0 servers h.0 h.1
    (λ d. labels_some kind (get_or servers h.0 d).weight total (length servers)
    (weighed.each h.0 d h.1) (get_or-le-sum_by (λ (s : NamedServer). s.weight) servers h.0 d h.1) weighed.total (h.2 d))
