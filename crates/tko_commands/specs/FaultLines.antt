-- What is written for a fault.
use Rattle.std.specs.Prelude.{ℕ, ◌<◌, ◌⊎◌, List, ◌++◌, codes}
use Rattle.tko_commands.specs.declared.fault.Fault.{Fault}
use Rattle.tko_commands.specs.declared.fault.Fault.TheVariants as fault
use Rattle.tko_commands.specs.Faults.{fault_line}
use Rattle.tko_commands.specs.Reasons.{HasLineOf, IsReasonFor}

-- the line of a fault with its LF
abbrev pub fault_bytes : Fault → List ℕ
fault_bytes reason = fault_line reason ++ codes "\n"

-- the line of the fault was written, or that of running out of memory
abbrev pub HasFaultLine : {O : Type 0} → (O → List ℕ → O → Type 0) → Fault → O → O → Type 0
HasFaultLine takes reason old new =
    takes old (fault_bytes reason) new ⊎ takes old (fault_bytes fault.Memory) new

-- the line of the fault was written, or that of running out of memory, and nothing else; or the
-- outlet failed
pub data IsFaultWritten {O : Type 0} (takes : O → List ℕ → O → Type 0) (failures : O → ℕ)
    (reason : Fault) (old new : O) : Type 0 where
  Written : HasFaultLine takes reason old new → IsFaultWritten takes failures reason old new
  Failed : failures old < failures new → IsFaultWritten takes failures reason old new

-- a fault came, of which this is known; a line may say why, and then the line of that fault was
-- written, and nothing else
pub record IsReasonTold {O : Type 0} (takes : O → List ℕ → O → Type 0) (failures : O → ℕ)
    (came : Fault → Type 0) (old new : O) : Type 0 where
  pub middle : O
  pub fault : Fault
  pub known : came fault
  pub reason : HasLineOf takes failures (IsReasonFor fault) old middle
  pub line : IsFaultWritten takes failures fault middle new

-- this fault came; a line of this kind may say why, and then the line of the fault was written, and
-- nothing else
pub record IsToldAfter {O : Type 0} (takes : O → List ℕ → O → Type 0) (failures : O → ℕ)
    (why : List ℕ → Type 0) (fault : Fault) (old new : O) : Type 0 where
  pub middle : O
  pub reason : HasLineOf takes failures why old middle
  pub line : IsFaultWritten takes failures fault middle new
