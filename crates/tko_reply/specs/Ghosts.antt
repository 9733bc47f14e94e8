-- What the traits of the parts show, in one record for those relations that need it.
use Rattle.tko_health.specs.declared.health.Health.{Ghosts as HealthGhosts}
use Rattle.tko_links.specs.declared.links.Links.{Ghosts as LinksGhosts}
use Rattle.tko_route.specs.Calls.{Upstream}
use Rattle.tko_io.specs.declared.clock.Clock.{Ghosts as ClockGhosts}
use Rattle.tko_prober.specs.Ghosts.{BackendGhosts, backend_ghosts}
use Rattle.tko_reply.specs.TrailEvents.{TrailEvent}
use Rattle.tko_reply.specs.declared.trails.Trails.{Ghosts as TrailsGhosts}

-- what a backend shows, and what the trails record
pub record PartsGhosts (H L T C : Type 0) : Type 1 where
  pub backend : BackendGhosts H L C
  pub records : T → TrailEvent → T → Type 0

abbrev pub parts_ghosts : {H L T C : Type 0} → HealthGhosts H → LinksGhosts L → TrailsGhosts T
    → ClockGhosts C → PartsGhosts H L T C
parts_ghosts health links trails clock =
    record { backend = backend_ghosts health links clock; records = trails.records }

-- the servers as the health and the links of these parts show them
abbrev pub upstream_of : {H L T C : Type 0} → PartsGhosts H L T C → Upstream H L
upstream_of ghosts = record {
  steps = ghosts.backend.steps;
  exchanges = ghosts.backend.exchanges;
  sent = ghosts.backend.sent;
}
