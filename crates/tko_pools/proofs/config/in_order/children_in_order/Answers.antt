use Rattle.tko_pools.proofs.InOrderLemmas.{children-more}
use Rattle.tko_pools.proofs.config.in_order.children_in_order.Goals as goal

pub loop-number-preserved : goal.loop-number-preserved
loop-number-preserved c =
    children-more _ _ _ _ c.loop-number.invariant c.in_ok-alone.ensures c.in_ok-push.ensures.items
