-- What answers for the metrics and the health.
use Rattle.std.specs.Prelude.{List}
use Rattle.tko_metrics.specs.declared.health.ShownPool.{ShownPool}
use Rattle.tko_scrapes.specs.declared.scrapes.Scrapes.{Scrapes}

-- the pools whose health is asked for
abbrev pub asked_pools : Scrapes → List ShownPool
asked_pools scrapes = scrapes.pools.items
