use Rattle.std.proofs.Common.{◌≡◌, ◌++◌, drop, flat_map}
use Rattle.tko_metrics.specs.Health.{pool_lines}
use Rattle.tko_metrics.proofs.health.add_pools.Given as goal

abbrev pub invariant-loop-pool : goal.invariant-loop-pool
invariant-loop-pool l =
    l.out.items ++ flat_map (pool_lines l.servers) (drop l.pool-index l.pools)
    ≡ l.initial.out.items ++ flat_map (pool_lines l.servers) l.pools
