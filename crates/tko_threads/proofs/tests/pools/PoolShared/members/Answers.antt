use Rattle.std.proofs.Common.{All, length, subst}
use Rattle.std.proofs.lemmas.List.Elements.{All-head, All-tail}
use Rattle.tko_threads.proofs.ReadyLemmas.{one_more_ready, own_there}
use Rattle.tko_threads.proofs.tests.pools.PoolShared.members.Goals as goal

pub loop-idle-preserved : goal.loop-idle-preserved
loop-idle-preserved g c =
    let own = g.S.Seating.own c.args.self.now.seating in
    let seats = subst (All own) c.in-Some.ensures.steps.0.0 c.loop-idle.invariant.2 in (
      (tt, tt),
      tt,
      All-tail own _ _ seats,
      one_more_ready g.S.Seating.own g.S.Seating.servers (λ links. length links.inner.sends) _ _ _
          c.in_ok-push.ensures.items c.loop-idle.invariant.3
          (own_there g.S.Seating.own _ _ _ c.in_ok-parts.ensures.seating (All-head own _ _ seats))
          c.in_ok-parts.ensures.equipped,
    )
