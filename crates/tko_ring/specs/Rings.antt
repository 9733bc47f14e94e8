-- A ring: each server has points on it, and a hash belongs to the server of the nearest point from
-- it on.
use Rattle.std.specs.Prelude.{◌≡◌, ℕ, ◌<◌, ◌≤◌, nat_le, List, Option, length, All, Contains, find, get_or, option_map, slice_get, unwrap_or, ◌⊎◌, ◌↔◌}
use Rattle.std.specs.List.Sorted.{IsPermutation}
use Rattle.std.specs.Option.{option_or}
use Rattle.tko_ring.specs.declared.point.Point.{Point}

-- the first point lies lower; or as low, and its server comes no later in the list
pub record IsNoLater (first second : Point) : Type 0 where
  pub no_higher : first.value ≤ second.value
  pub tie : first.value ≡ second.value → first.place ≤ second.place

-- this is the least of the points from a hash on
pub record IsNextPoint (points : List Point) (hash : ℕ) (point : Point) : Type 0 where
  pub among : Contains points point
  pub reached : hash ≤ point.value
  pub nearest : All (λ other. hash ≤ other.value → IsNoLater point other) points

-- all points lie below a hash, and this is the least of them
pub record IsLeastPoint (points : List Point) (hash : ℕ) (point : Point) : Type 0 where
  pub among : Contains points point
  pub passed : All (λ other. other.value < hash) points
  pub nearest : All (IsNoLater point) points

-- a hash belongs to the server at this place: that of the least point from it on, or of the least
-- of all points where there is none
pub record BelongsTo (points : List Point) (hash place : ℕ) : Type 0 where
  pub point : Point
  pub chosen : IsNextPoint points hash point ⊎ IsLeastPoint points hash point
  pub is : point.place ≡ place

-- points in order
abbrev pub AreInOrder : List Point → Type 0
AreInOrder points =
    (i j : ℕ) (d : Point) → i ≤ j → j < length points
    → IsNoLater (get_or points i d) (get_or points j d)

-- these points in order
pub record IsRing (points ring : List Point) : Type 0 where
  pub moved : IsPermutation points ring
  pub ordered : AreInOrder ring

-- in whatever order the points are, the hash belongs to this server and to no other
abbrev pub BelongsOnlyTo : List Point → ℕ → ℕ → Type 0
BelongsOnlyTo ring hash place =
    (points : List Point) (other : ℕ) → IsPermutation points ring
    → (BelongsTo points hash other ↔ (other ≡ place))

-- the first point of a ring from a hash on, or else its first point
abbrev pub point_of : List Point → ℕ → Option Point
point_of ring hash = option_or (find (λ point. nat_le hash point.value) ring) (slice_get ring 0)

-- the place of the server that a hash belongs to, on points that are in order
unfoldable pub server_place : List Point → ℕ → ℕ
server_place ring hash = unwrap_or (option_map (λ point. point.place) (point_of ring hash)) 0
