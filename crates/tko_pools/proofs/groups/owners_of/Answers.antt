use Rattle.tko_pools.proofs.GroupLemmas.{owners-more}
use Rattle.tko_pools.proofs.groups.owners_of.Goals as goal

pub loop-server-preserved : goal.loop-server-preserved
loop-server-preserved c =
    owners-more _ _ _ _ _ c.loop-server.invariant c.owner_of.ensures c.in_ok-push.ensures.items
