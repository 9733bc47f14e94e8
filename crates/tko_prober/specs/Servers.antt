-- The servers that a backend has.
use Rattle.std.specs.Prelude.{◌≡◌, ℕ, length}
use Rattle.tko_prober.specs.declared.backend.Backend.{Backend}

-- the links and the probers have the servers of the health
pub record HaveServers {H L C : Type 0} (servers : H → ℕ) (linked : L → ℕ)
    (backend : Backend H L C) : Type 0 where
  pub links : linked backend.links ≡ servers backend.health
  pub probers : length backend.probers.slots ≡ servers backend.health

-- the servers stay: the probers have as many as before, and so has the health
pub record ServersStay {H L C : Type 0} (count : H → ℕ) (old new : Backend H L C) : Type 0 where
  pub slots : length new.probers.slots ≡ length old.probers.slots
  pub servers : count new.health ≡ count old.health
