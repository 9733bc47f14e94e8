use Rattle.std.proofs.Common.{rules, ltb}
use Rattle.std.proofs.lemmas.Bool.{ltb-true, ltb-false}
use Rattle.std.proofs.lemmas.List.Sorted.{IsPartitionPoint-from_clause, IsPartitionedBy-ltb}
use Rattle.tko_ring.proofs.RingLemmas.{values_rise}
use Rattle.tko_ring.specs.declared.point.Point.{Point}
use Rattle.tko_ring.proofs.ring.first_from.Goals as goal

pub returns : goal.returns
returns c =
    let parted = IsPartitionedBy-ltb (λ (p : Point). p.value) _ c.args.hash (values_rise _ c.requires.ordered) in
    let point = IsPartitionPoint-from_clause (λ (p : Point). ltb p.value c.args.hash) _ _ c.partition_point.ensures.partitioned parted (λ a r q k. search rules) in
    (λ k d low high. ltb-true _ _ (point.0 k d low high), λ k d low high. ltb-false _ _ (point.1 k d low high))
