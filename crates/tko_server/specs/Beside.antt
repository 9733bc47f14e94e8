-- What runs beside a server: its event log and its metrics.
use Rattle.std.specs.Prelude.{◌≡◌, ℕ, List, length, map, string_bytes}
use Rattle.tko_events.specs.Lines.{IsJournalBegun}
use Rattle.tko_metrics.specs.Meters.{HasParts}
use Rattle.tko_metrics.specs.declared.health.ShownPool.{ShownPool}
use Rattle.tko_pools.specs.Configs.{Configuration, numbers_below, servers_at}
use Rattle.tko_scrapes.specs.Scrapes.{asked_pools}
use Rattle.tko_server.specs.declared.logging.Logging.{Logging}
use Rattle.tko_server.specs.declared.metering.Metering.{Metering}
use Rattle.tko_server.specs.declared.running.Options.{Options}

-- the log of a server with these options, which will listen here: no event has come, its lines have
-- the addresses of the configuration, and a soft mark's line has the failures that make one
abbrev pub IsLogOf : List ℕ → Options → Logging → Type 0
IsLogOf listen options logging =
    IsJournalBegun listen options.settings.failures options.config.addresses logging.journal

-- these are the pools of the route of a configuration, in its order: each has the name that the
-- route has at this place, and the servers of the child at this place
pub record AreRoutePools (config : Configuration) (pools : List ShownPool) : Type 0 where
  pub names : map (λ pool. string_bytes pool.name) pools ≡ config.names
  pub servers :
      map (λ pool. pool.servers.items) pools
      ≡ map (servers_at config) (numbers_below (length config.names))

-- the metrics of a server with these options: there is a part for each worker, and the health is
-- that of the pools of its route
pub record IsMeterOf (options : Options) (metering : Metering) : Type 0 where
  pub parts : HasParts options.settings.threads metering.meter
  pub pools : AreRoutePools options.config (asked_pools metering.scrapes)
