use Rattle.std.proofs.Common.{ap, sym, ◌∙◌}
use Rattle.tko_pools.proofs.GroupLemmas.{no-more-place, one-more-place}
use Rattle.tko_pools.proofs.groups.owning.Goals.{then-is_in+in_ok-push, else-is_in}
use Rattle.tko_pools.proofs.groups.owning.Goals as goal

pub loop-place-preserved : goal.loop-place-preserved
loop-place-preserved c =
    elim c.if-is_in.branch [
      | then-is_in+in_ok-push w ↦
          one-more-place c.args.owners.now c.loop-place.place _ _ c.loop-place.invariant (sym c.is_in.ensures ∙ w.if-is_in.true) (ap (λ v. v.items) w.places-is ∙ w.in_ok-push.ensures.items)
      | else-is_in w ↦
          no-more-place c.args.owners.now c.loop-place.place _ _ c.loop-place.invariant (sym c.is_in.ensures ∙ w.if-is_in.false) (ap (λ v. v.items) w.places-is)
    ]
