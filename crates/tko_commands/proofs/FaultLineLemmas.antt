-- What was written for a fault.
use Rattle.std.proofs.Common.{◌≡◌, ℕ, ◌<◌, List, refl, subst, IfErr, IsOk, OnErr, OnOk, Result, Ok, Err}
use Rattle.tko_commands.specs.declared.fault.Fault.{Fault}
use Rattle.tko_commands.specs.FaultLines.{IsReasonTold, IsFaultWritten, Written, Failed, HasFaultLine}
use Rattle.tko_commands.specs.Reasons.{LeftOut}

-- what holds where it is Ok
pub on_ok : {T E : Type 0} {P Q : Type 0} (result : Result T E) → OnOk result P → (P → Q) → OnOk result Q
on_ok (Ok value) holds next = next holds
on_ok (Err error) holds next = holds

-- what holds in any case, where it is Err
pub on_err : {T E : Type 0} {P : Type 0} (result : Result T E) → P → OnErr result P
on_err (Ok value) holds = tt
on_err (Err error) holds = holds

-- the line of a fault alone
pub told_alone : {F : Type 0} (notes : F → List ℕ → F → Type 0) (faults : F → ℕ) (came : Fault → Type 0)
    (reason : Fault) (old new : F) → came reason → IsFaultWritten notes faults reason old new
    → IsReasonTold notes faults came old new
told_alone notes faults came reason old new known told =
    record { middle = old; fault = reason; known = known; reason = LeftOut refl; line = told }

-- what is known of the fault says more
pub told_as : {F : Type 0} (notes : F → List ℕ → F → Type 0) (faults : F → ℕ) (came other : Fault → Type 0)
    (old new : F) → ((fault : Fault) → came fault → other fault) → IsReasonTold notes faults came old new
    → IsReasonTold notes faults other old new
told_as notes faults came other old new next told = record {
  middle = told.middle;
  fault = told.fault;
  known = next told.fault told.known;
  reason = told.reason;
  line = told.line;
}

-- the same fault ended it
pub err_as : {T : Type 0} (result : Result T Fault) (cause fault : Fault) → result ≡ Err cause → fault ≡ cause
    → result ≡ Err fault
err_as result cause fault is same = rw same is

-- what holds where it is Err, of one that is
pub of_err : {T E : Type 0} (P : E → Type 0) (result : Result T E) (error : E) → result ≡ Err error
    → IfErr result P → P error
of_err P (Ok value) error is holds = absurd (cc)
of_err P (Err cause) error is holds = let same : cause ≡ error = cc in subst P same holds

pub is_fault_written : {O T E : Type 0} (takes : O → List ℕ → O → Type 0) (failures : O → ℕ) (reason : Fault) (old new : O)
    (result : Result T E) → OnOk result (HasFaultLine takes reason old new) → OnErr result (failures old < failures new)
    → IsFaultWritten takes failures reason old new
is_fault_written takes failures reason old new (Ok value) line failed = Written line
is_fault_written takes failures reason old new (Err error) line failed = Failed failed

-- what holds where it is Ok, of one that is
pub of_ok : {T E : Type 0} {P : Type 0} (result : Result T E) → IsOk result → OnOk result P → P
of_ok (Ok value) is holds = holds
of_ok (Err error) is holds = absurd (cc)
