use Rattle.std.proofs.Common.{◌≡◌, ◌∙◌, refl, subst, sym}
use Rattle.std.specs.Prelude.{IsSome, Some}
use Rattle.serde_json.specs.View.{view}
use Rattle.tko_pools.specs.Placements.{kind_in}
use Rattle.tko_pools.proofs.PlacedLemmas.{placed-weighed}
use Rattle.tko_ring.specs.Servers.{AreWeighed}
use Rattle.tko_pools.proofs.children.ring_of.Goals as goal

pub of-requires : goal.of-requires
of-requires c =
    let pool = view c.args.pool.now in
    let known : kind_in pool ≡ Some c.in-Some.kind = sym c.kind_in.ensures ∙ c.in-Some.is in
    subst AreWeighed (sym (c.deref.ensures.value ∙ c.in_ok-servers.ensures))
    (placed-weighed pool c.requires.placed (subst IsSome (sym known) refl))
