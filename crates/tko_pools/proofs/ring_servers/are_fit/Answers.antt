use Rattle.tko_pools.proofs.FitLemmas.{tested-fit}
use Rattle.tko_pools.proofs.ring_servers.are_fit.Goals as goal

pub returns-clause-value : goal.returns-clause-value
returns-clause-value c = tested-fit c.are_weighed.result c.args.servers.now c.are_weighed.ensures
