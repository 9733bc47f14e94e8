-- The effects of a session on its parts, as the traits of these show them.
use Rattle.tko_health.specs.declared.health.Health.{Ghosts as HealthGhosts}
use Rattle.tko_links.specs.declared.links.Links.{Ghosts as LinksGhosts}
use Rattle.tko_io.specs.declared.clock.Clock.{Ghosts as ClockGhosts}
use Rattle.tko_reply.specs.declared.trails.Trails.{Ghosts as TrailsGhosts}
use Rattle.tko_reply.specs.declared.parts.Parts.{Parts}
use Rattle.tko_session.specs.Turns.{IsRequestCut}
use Rattle.tko_session.specs.Events.{Effects, IsEvent}
use Rattle.tko_reply.specs.Ghosts.{PartsGhosts, parts_ghosts}
use Rattle.tko_reply.specs.Interactions.{Performs}
use Rattle.tko_session.specs.SessionState.{probe_counts, sent_by}

-- the effects on parts that show this
abbrev pub effects_of : {H L T C : Type 0} → PartsGhosts H L T C → Effects (Parts H L T C)
effects_of ghosts = record {
  step = IsEvent ghosts;
  cut = λ request. Performs ghosts (λ config. IsRequestCut config request);
  sent = sent_by ghosts.backend.sent;
  probed = probe_counts ghosts.backend.probed;
}

-- the effects on parts with this health, these links, these trails and this clock
abbrev pub effects : {H L T C : Type 0} → HealthGhosts H → LinksGhosts L → TrailsGhosts T
    → ClockGhosts C → Effects (Parts H L T C)
effects health links trails clock = effects_of (parts_ghosts health links trails clock)
