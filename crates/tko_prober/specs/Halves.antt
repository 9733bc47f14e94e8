-- A probe in two halves: what a round finds due at a server, and the result, which may come at any
-- later time.
use Rattle.std.specs.Prelude.{◌≡◌, ℕ, ◌<◌, ◌⊎◌, Option, Some, None}
use Rattle.tko_model.specs.declared.mark.Reply.{Reply}
use Rattle.tko_model.specs.Records.{HealthItem, NoDuty}
use Rattle.tko_prober.specs.declared.prober.Probed.{Probed}
use Rattle.tko_prober.specs.declared.prober.Prober.{Prober}
use Rattle.tko_prober.specs.declared.prober.ProberStage.TheVariants.{Out}
use Rattle.tko_prober.specs.Probes.{IsDue, asked_after, sent}
use Rattle.tko_route.specs.Trail.{IsRecorded}
use Rattle.tko_prober.specs.declared.backend.Backend.{Backend}
use Rattle.tko_prober.specs.declared.probers.ProbeSlot.TheVariants.{Probing, Quiet}
use Rattle.tko_prober.specs.Probers.{ProbersState, op_asked, prober_of, slot_after, with_slot}

-- a probe may be sent to this server: the health granted the right to it, and the links have the
-- server
pub record MayProbe {H L : Type 0} (grants : H → ℕ → Type 0) (linked : L → ℕ) (health : H)
    (links : L) (server : ℕ) : Type 0 where
  pub right : grants health server
  pub within : server < linked links

-- a probe of this server is out, sent by this prober
pub record IsOut (probers : ProbersState) (server : ℕ) (prober : Prober) : Type 0 where
  pub has : prober_of probers server ≡ Some prober
  pub out : prober.stage ≡ Out

module _ {H L C : Type 0} (steps : H → HealthItem → H → Type 0) where
  -- the server is not this thread's to probe: its prober is stopped
  pub record IsStopped (old : Backend H L C) (server : ℕ) (new : Backend H L C) : Type 0 where
    pub prober : Prober
    pub has : prober_of old.probers server ≡ Some prober
    pub refused : steps old.health (NoDuty server) new.health
    pub others : new ≡ record old {
      health = new.health;
      probers = with_slot old.probers server Quiet;
    }

  -- the probe that this prober sent came to this at this moment, and what the prober asks for was
  -- recorded, to which the tracker gave this reply
  pub record IsResult (moment : ℕ) (old : Backend H L C) (server : ℕ) (prober : Prober)
      (probed : Probed) (reply : Option Reply) (new : Backend H L C) : Type 0 where
    pub recorded : IsRecorded steps old.health
        server (op_asked (asked_after probed)) reply new.health
    pub others : new ≡ record old {
      health = new.health;
      probers = with_slot old.probers server (slot_after prober moment probed);
    }

module _ {H L C : Type 0} (grants : H → ℕ → Type 0) where
  -- the prober is not due at the moment of the round, and the server is this thread's to probe
  pub record IsRested (moment : ℕ) (old : Backend H L C) (server : ℕ) (new : Backend H L C)
      : Type 0 where
    pub prober : Prober
    pub has : prober_of old.probers server ≡ Some prober
    pub right : grants old.health server
    pub early : ¬ IsDue prober.stage moment
    pub same : new ≡ old

  -- the prober is due at the moment of the round, the health granted the right to probe its server,
  -- and the probe is out from now on
  pub record IsProbeSent (moment : ℕ) (old : Backend H L C) (server : ℕ) (new : Backend H L C)
      : Type 0 where
    pub prober : Prober
    pub has : prober_of old.probers server ≡ Some prober
    pub due : IsDue prober.stage moment
    pub right : grants old.health server
    pub others : new ≡ record old {
      probers = with_slot old.probers server (Probing (sent prober));
    }

-- no probe is sent: the server has no prober, its prober is stopped, or it is not due
abbrev pub IsPassed : {H L C : Type 0} → (H → HealthItem → H → Type 0) → (H → ℕ → Type 0)
    → ℕ → Backend H L C → ℕ → Backend H L C → Type 0
IsPassed steps grants moment old server new =
    ((prober_of old.probers server ≡ None) × (new ≡ old))
    ⊎ IsStopped steps old server new
    ⊎ IsRested grants moment old server new
