-- What becomes of a server's announcement.
use Rattle.std.specs.Prelude.{◌≡◌, Result, Ok, Err}
use Rattle.tko_server.specs.declared.run_fault.ServerRunFault.{ServerRunFault}
use Rattle.tko_server.specs.declared.run_fault.ServerRunFault.TheVariants as run
use Rattle.tko_server.specs.declared.tracked.Failed.{Failed}

-- memory ran out: before anything was announced, or after all of it was
pub data IsCutShort {A : Type 0} (announces : A → A → Type 0) (old new : A) : Type 0 where
  Before : new ≡ old → IsCutShort announces old new
  After : announces old new → IsCutShort announces old new

-- what became of the announcement of a server that came to this: a server that ends well has
-- announced, and so has one that accepted; one that failed before has not
abbrev pub IsAnnounced : {A T : Type 0} → (A → A → Type 0) → (A → A → Type 0) → A → A
    → Result T ServerRunFault → Type 0
IsAnnounced announces fails old new (Ok ended) = announces old new
IsAnnounced announces fails old new (Err (run.Settings setting)) = new ≡ old
IsAnnounced announces fails old new (Err run.Memory) = IsCutShort announces old new
IsAnnounced announces fails old new (Err run.Announce) = fails old new
IsAnnounced announces fails old new (Err run.Accept) = announces old new

-- the same of a run over its tracker
abbrev pub fault_in : {T : Type 0} → Result T Failed → Result T ServerRunFault
fault_in (Ok ended) = Ok ended
fault_in (Err failed) = Err failed.fault
