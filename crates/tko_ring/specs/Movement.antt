-- Which hashes go to another server where a pool gains a server, or loses one.
use Rattle.std.specs.Prelude.{◌≡◌, ℕ, ◌+◌, nat_lt, if◌then◌else◌, List, ◌∷◌, ◌++◌, All, length, ◌⊎◌}
use Rattle.tko_ring.specs.Points.{labels_of, points_of}
use Rattle.tko_ring.specs.Rings.{IsRing, server_place}
use Rattle.tko_ring.specs.Servers.{NamedServer, total_weight}
use Rattle.tko_ring.specs.declared.kind.RingKind.{RingKind}
use Rattle.tko_ring.specs.declared.point.Point.{Point}

-- how many labels a server of this weight has in a pool
abbrev pub labels_in : RingKind → List NamedServer → ℕ → ℕ
labels_in kind servers weight = labels_of kind weight (total_weight servers) (length servers)

-- a pool is another with one more server, at this place, and each of the others has as many labels
-- as before: always by `consistent`; by `ketama` where no quotient is rounded to another number
pub record HasGained (kind : RingKind) (fewer servers : List NamedServer) (place : ℕ) : Type 0 where
  pub before : List NamedServer
  pub joined : NamedServer
  pub after : List NamedServer
  pub was : fewer ≡ before ++ after
  pub is : servers ≡ before ++ joined ∷ after
  pub at : place ≡ length before
  pub same :
      All (λ server. labels_in kind servers server.weight ≡ labels_in kind fewer server.weight)
      (before ++ after)

-- the place of a server in a list that has one more at this place
abbrev pub place_after : ℕ → ℕ → ℕ
place_after joined place = if nat_lt place joined then place else place + 1

-- each hash belongs to the server that joined, or to the one to which it belonged before
abbrev pub MovesToJoined : RingKind → List NamedServer → List Point → Type 0
MovesToJoined kind servers ring =
    (fewer : List NamedServer) (place : ℕ) (smaller : List Point) (hash : ℕ)
    → HasGained kind fewer servers place → IsRing (points_of kind fewer) smaller
    → (server_place ring hash ≡ place)
    ⊎ (server_place ring hash ≡ place_after place (server_place smaller hash))
