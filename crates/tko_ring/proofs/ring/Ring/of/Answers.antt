use Rattle.std.proofs.Common.{◌<◌, List, length, arith, subst}
use Rattle.std.proofs.lemmas.List.Sorted.{length_permutation}
use Rattle.tko_ring.proofs.MovementLemmas.{moves_to_joined, place_within}
use Rattle.tko_ring.proofs.PointLemmas.{pool_some}
use Rattle.tko_ring.specs.Points.{points_of}
use Rattle.tko_ring.specs.Rings.{IsRing}
use Rattle.tko_ring.specs.declared.point.Point.{Point}
use Rattle.tko_ring.proofs.ring.Ring.of.Goals as goal

made : (c : goal.In_ok-in_order) → IsRing (points_of c.args.kind c.args.servers.now) c.in_ok-in_order.field-0.items
made c =
    subst (λ (points : List Point). IsRing points c.in_ok-in_order.field-0.items) c.in_ok-points_of.ensures
    c.in_ok-in_order.ensures

some : (c : goal.In_ok-in_order) → 0 < length c.in_ok-in_order.field-0.items
some c =
    let same = length_permutation (points_of c.args.kind c.args.servers.now) c.in_ok-in_order.field-0.items (made c).moved in
    omega (arith, same, pool_some c.args.kind c.args.servers.now c.requires)

pub invariant_of-result : goal.invariant_of-result
invariant_of-result c = ((made c).ordered, some c)

pub returns-clause-points : goal.returns-clause-points
returns-clause-points c = made c

pub returns-clause-within : goal.returns-clause-within
returns-clause-within c hash =
    place_within c.args.kind c.args.servers.now c.in_ok-in_order.field-0.items hash (made c) (some c)

pub returns-clause-moves : goal.returns-clause-moves
returns-clause-moves c =
    moves_to_joined c.args.kind c.args.servers.now c.in_ok-in_order.field-0.items (made c) (some c)
