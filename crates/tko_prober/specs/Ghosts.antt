-- What the traits of a backend's parts show, in one record for those relations that need it.
use Rattle.std.specs.Prelude.{ℕ}
use Rattle.tko_model.specs.Records.{HealthItem}
use Rattle.tko_health.specs.declared.health.Health.{Ghosts as HealthGhosts}
use Rattle.tko_links.specs.Links.{LinksItem}
use Rattle.tko_links.specs.declared.links.Links.{Ghosts as LinksGhosts}
use Rattle.tko_io.specs.declared.clock.Clock.{Ghosts as ClockGhosts}

-- what the health, the links and the clock of a backend record, and how often each server was sent
-- to and probed
pub record BackendGhosts (H L C : Type 0) : Type 1 where
  pub steps : H → HealthItem → H → Type 0
  pub grants : H → ℕ → Type 0
  pub exchanges : L → LinksItem → L → Type 0
  pub sent : L → ℕ → ℕ
  pub probed : L → ℕ → ℕ
  pub reads : C → ℕ → C → Type 0

abbrev pub backend_ghosts : {H L C : Type 0} → HealthGhosts H → LinksGhosts L → ClockGhosts C
    → BackendGhosts H L C
backend_ghosts health links clock = record {
  steps = health.steps;
  grants = health.grants;
  exchanges = links.exchanges;
  sent = links.sent;
  probed = links.probed;
  reads = clock.reads;
}
