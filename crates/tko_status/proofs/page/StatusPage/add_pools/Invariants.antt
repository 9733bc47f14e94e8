use Rattle.std.proofs.Common.{◌≡◌, ◌++◌, drop, flat_map}
use Rattle.tko_status.specs.Pages.{pool_table}
use Rattle.tko_status.proofs.page.StatusPage.add_pools.Given as goal

abbrev pub invariant-loop-pool : goal.invariant-loop-pool
invariant-loop-pool l =
    l.out.items ++ flat_map (pool_table l.self) (drop l.pool-index l.self.pools.now)
    ≡ l.initial.out.items ++ flat_map (pool_table l.self) l.self.pools.now
