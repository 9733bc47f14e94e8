-- The parts that the clients of a worker share, as a round changes them.
use Rattle.std.specs.Prelude.{◌≡◌, ℕ, List, Option, Some, None}
use Rattle.tko_model.specs.declared.mark.Reply.{Reply}
use Rattle.tko_mux.specs.declared.asking.Came.{Came}
use Rattle.tko_health.specs.declared.health.Health.{Ghosts as HealthGhosts}
use Rattle.tko_prober.specs.declared.backend.Backend.{Backend}
use Rattle.tko_prober.specs.Halves.{IsPassed, IsProbeSent}
use Rattle.tko_prober.specs.Probers.{begun_at}
use Rattle.tko_reply.specs.declared.parts.Parts.{Parts}
use Rattle.tko_client.specs.Steps.{HasStayed}
use Rattle.tko_rounds.specs.Probes.{IsProbeCounted, ProbesState}
use Rattle.tko_rounds.specs.Rounds.{HasProbeCome}

-- the same parts with the health and the probers of this backend
abbrev pub with_probing : {H L T C : Type 0} → Backend H L C → Parts H L T C → Parts H L T C
with_probing backend parts = record parts {
  backend = record parts.backend { health = backend.health; probers = backend.probers };
}

-- each server that was marked has a prober that begins at this moment
abbrev pub with_begun : {H L T C : Type 0} → ℕ → Parts H L T C → Parts H L T C
with_begun moment parts = record parts {
  backend = record parts.backend { probers = begun_at moment parts.backend.probers };
}

-- only the health and the probers of these parts change, and the sessions stay ready
pub record OnlyProbingChanges {H T C : Type 0} (servers : H → ℕ) (old new : Parts H (List ℕ) T C)
    : Type 0 where
  pub others : new ≡ with_probing new.backend old
  pub stays : HasStayed servers old new

module _ {H L C : Type 0} (health : HealthGhosts H) where
  -- whether a probe is due at this server was found: none is, or this is the right to send it
  abbrev pub DueAt : ℕ → ℕ → Backend H L C → Option ℕ → Backend H L C → Type 0
  DueAt moment server old None new = IsPassed health.steps health.grants moment old server new
  DueAt moment server old (Some duty) new =
      (duty ≡ server) × IsProbeSent health.grants moment old server new

module _ {H T C : Type 0} (health : HealthGhosts H) where
  -- the same over the parts, which stay else
  pub record FindsDue (moment server : ℕ) (old : Parts H (List ℕ) T C) (duty : Option ℕ)
      (new : Parts H (List ℕ) T C) : Type 0 where
    pub due : DueAt health moment server old.backend duty new.backend
    pub parts : OnlyProbingChanges health.servers old new

  -- what came of a probe of this server was recorded
  pub record TakesResult (moment server : ℕ) (came : Came) (old : Parts H (List ℕ) T C)
      (reply : Option Reply) (new : Parts H (List ℕ) T C) : Type 0 where
    pub has_come : HasProbeCome health moment old.backend server
        (record { came = came; reply = reply }) new.backend
    pub parts : OnlyProbingChanges health.servers old new

  -- a probe of this server came to this: that was recorded, and counted where it counts
  pub record IsProbeSettled (moment server : ℕ) (came : Came)
      (old : ProbesState × Parts H (List ℕ) T C) (reply : Option Reply)
      (new : ProbesState × Parts H (List ℕ) T C) : Type 0 where
    pub takes : TakesResult moment server came old.1 reply new.1
    pub counted : IsProbeCounted came server old.0 new.0
