-- What holds of a pool that says how it spreads keys: a ring can be made of its servers.
use Rattle.std.proofs.Common.{◌≡◌, ◌<◌, ℕ, Bool, true, false, cond, List, [], ◌∷◌, length, refl, ap, subst, arith, ◌&&◌, not, suc, ◌+◌}
use Rattle.std.specs.Prelude.{Option, Some, None, IfSome, IsSome, codes, option_and_then}
use Rattle.std.specs.Option.{is_none}
use Rattle.std.proofs.lemmas.Bool.{not-false, or_parts}
use Rattle.std.proofs.lemmas.List.Sorted.{length_permutation}
use Rattle.serde_json.specs.Data.{Data}
use Rattle.serde_json.specs.Find.{get}
use Rattle.tko_pools.specs.Children.{IsRingIn, IsRingOver}
use Rattle.tko_pools.specs.Distributions.{is_ring, ring_kind}
use Rattle.tko_pools.specs.Json.{servers_of}
use Rattle.tko_pools.specs.PlacementFlaws.{are_misfit_weights, flaw_by, is_misfit_prefix, is_misfit_tag, placement_flaw, servers_flaw, weights_are_wrong}
use Rattle.tko_pools.specs.Placements.{distribution_in, hash_in, hash_or_default, kind_in}
use Rattle.tko_pools.specs.RingServers.{are_fit, named_from, named_servers}
use Rattle.tko_pools.specs.declared.distribution.Distribution.{Distribution}
use Rattle.tko_pools.specs.declared.distribution.Distribution.TheVariants as way
use Rattle.tko_pools.specs.declared.pool_key.PoolKey.TheVariants as key
use Rattle.tko_pools.proofs.FitLemmas.{fit-weighed}
use Rattle.tko_ring.proofs.MovementLemmas.{place_within}
use Rattle.tko_ring.proofs.PointLemmas.{pool_some}
use Rattle.tko_ring.specs.Points.{points_of}
use Rattle.tko_ring.specs.Rings.{IsRing, server_place}
use Rattle.tko_ring.specs.Servers.{AreWeighed, NamedServer}
use Rattle.tko_ring.specs.declared.key_hash.KeyHash.{KeyHash}
use Rattle.tko_ring.specs.declared.kind.RingKind.{RingKind}
use Rattle.tko_ring.specs.declared.point.Point.{Point}

pub tested-none : {T : Type 0} (test : Bool) (one : T) (rest : Option T) → cond test (Some one) rest ≡ None
    → (test ≡ false) × (rest ≡ None)
tested-none true one rest h = cc
tested-none false one rest h = (refl, h)

not-wrong : (way : Distribution) (pool : Data) → servers_flaw way pool ≡ None → weights_are_wrong way pool ≡ false
not-wrong way pool none = (tested-none (weights_are_wrong way pool) key.Weights _ none).0

way-fit : (way : Distribution) (hash : KeyHash) (fit : Bool) → (is_ring way && not fit) ≡ false
    → IsSome (ring_kind way hash) → fit ≡ true
way-fit way.Modula hash fit unless some = cc
way-fit way.Ketama hash fit unless some = not-false fit unless
way-fit way.Consistent hash fit unless some = not-false fit unless

fit-by : (found : Option Distribution) (pool : Data) (hash : KeyHash) → flaw_by found pool ≡ None
    → IsSome (option_and_then (λ w. ring_kind w hash) found) → are_fit (named_servers pool) ≡ true
fit-by None pool hash none some = cc
fit-by (Some w) pool hash none some =
    let hashed = tested-none (is_none (hash_in pool)) key.Hash _ none in
    let tagged = tested-none (is_misfit_tag (get (codes "hash_tag") pool)) key.HashTag _ hashed.1 in
    let fixed = tested-none (is_misfit_prefix (get (codes "unhashed_prefix") pool) (get (codes "hash_tag") pool)) key.UnhashedPrefix _ tagged.1 in
    let right = not-wrong w pool fixed.1 in
    let both = or_parts (are_misfit_weights w pool (get (codes "weights") pool)) (is_ring w && not (are_fit (named_servers pool))) right in
    way-fit w hash (are_fit (named_servers pool)) both.1 some

-- a ring can be made of the servers of a pool that has one
pub placed-weighed : (pool : Data) → placement_flaw pool ≡ None → IsSome (kind_in pool) → AreWeighed (named_servers pool)
unfolding placement_flaw
placed-weighed pool none some =
    fit-weighed (named_servers pool) (fit-by (distribution_in pool) pool (hash_or_default pool) none some)

named-length : (names weights : Option Data) (place : ℕ) (addresses : List (List ℕ))
    → length (named_from names weights place addresses) ≡ length addresses
named-length names weights place [] = refl
named-length names weights place (address ∷ others) = ap suc (named-length names weights (place + 1) others)

-- there are as many as addresses
pub servers-length : (pool : Data) → length (named_servers pool) ≡ length (servers_of pool)
unfolding named_servers
servers-length pool = named-length (get (codes "names") pool) (get (codes "weights") pool) 0 (servers_of pool)

ring-over : (servers : List NamedServer) (kind : RingKind) (ring : List Point) (count : ℕ) → AreWeighed servers
    → length servers ≡ count → IsRing (points_of kind servers) ring → IsRingOver count ring
ring-over servers kind ring count weighed same is =
    let long = length_permutation (points_of kind servers) ring is.moved in
    let points = pool_some kind servers weighed in
    let some : 0 < length ring = omega (arith, long, points) in
    record {
      some = some;
      ordered = is.ordered;
      within = λ hash. subst (λ n. server_place ring hash < n) same (place_within kind servers ring hash is some);
    }

-- the ring of a pool, if it has one, is over its servers
pub is-over : (servers : List NamedServer) (kind : Option RingKind) (ring : Option (List Point)) (count : ℕ)
    → (IsSome kind → AreWeighed servers) → length servers ≡ count → IsRingIn servers kind ring
    → IfSome ring (IsRingOver count)
is-over servers None None count weighed same is = tt
is-over servers None (Some ring) count weighed same is = absurd is
is-over servers (Some kind) None count weighed same is = absurd is
is-over servers (Some kind) (Some ring) count weighed same is =
    ring-over servers kind ring count (weighed refl) same is
