-- How many points the servers of a ring have.
use Rattle.std.proofs.Common.{◌≡◌, ℕ, suc, ◌+◌, List, [], ◌∷◌, ◌++◌, length, map, refl, ap, sym, arith}
use Rattle.std.specs.List.{range_with_len}
use Rattle.std.proofs.lemmas.List.FromFn.{map-range_with_len_more}
use Rattle.serde_json.specs.declared.value.Value.{Value}
use Rattle.serde_json.specs.View.{items_view}
use Rattle.tko_explain.specs.Placing.{points_at}
use Rattle.tko_pools.specs.Json.{texts_of}
use Rattle.tko_ring.specs.declared.point.Point.{Point}

-- those of one more server
pub points-more : (ring : List Point) (servers : ℕ) (counts all : List ℕ) (count : ℕ)
    → counts ≡ map (points_at ring) (range_with_len 0 servers) → count ≡ points_at ring servers
    → all ≡ counts ++ count ∷ [] → all ≡ map (points_at ring) (range_with_len 0 (servers + 1))
points-more ring servers counts all count before last e =
    let more = map-range_with_len_more (points_at ring) 0 servers servers (omega arith) in
    rw (e, before, last) (sym more)

-- a list has as many texts as values
pub texts-length : (values : List Value) → length (texts_of (items_view values)) ≡ length values
texts-length [] = refl
texts-length (value ∷ values) = ap suc (texts-length values)
