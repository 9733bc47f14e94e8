-- The fault of a server after its notices.
use Rattle.std.proofs.Common.{◌≡◌, ℕ, List, IfErr, IfOk, OnErr, Result, Ok, Err, subst, sym}
use Rattle.tko_options.specs.Asked.{IsReadFrom, IsRefusal}
use Rattle.tko_options.specs.declared.asked.Asked.{Asked}
use Rattle.tko_options.specs.declared.refusal.Refusal.{Refusal}
use Rattle.tko_commands.proofs.FaultLineLemmas.{told_as}
use Rattle.tko_commands.specs.FaultLines.{IsFaultWritten, IsReasonTold}
use Rattle.tko_commands.specs.Reasons.{LeftOut}
use Rattle.tko_commands.specs.declared.fault.Fault.{Fault}
use Rattle.tko_commands.specs.declared.fault.Fault.TheVariants as fault
use Rattle.tko_commands.specs.declared.listen_fault.ListenFault.{ListenFault}
use Rattle.tko_commands.specs.declared.listen_fault.ListenFault.TheVariants as listen_fault
use Rattle.tko_cli.specs.Endings.{IsFaultTold, AfterReason, AfterNotes, AfterRefusal}
use Rattle.tko_cli.specs.Serving.{IsOfOptions, IsOfSystem, IsSilentOrNoted, Silent, WithNotes}
use Rattle.tko_io.specs.declared.io.Outlet.{Ghosts as OutletGhosts}

-- the line of a fault after what a server noted
pub fault_told : {O F : Type 0} (takes : O → List ℕ → O → Type 0) (failures : O → ℕ) (notes : OutletGhosts F)
    (is_noted : F → F → Type 0) (came : Fault → Type 0) (reason : Fault) (from to : O) (old middle new : F) → came reason
    → IsSilentOrNoted takes failures is_noted from to old middle
    → IsFaultWritten notes.takes notes.failures reason middle new → IsFaultTold takes failures notes is_noted came from to old new
fault_told takes failures notes is_noted came reason from to old middle new known (Silent same) told =
    AfterReason (record { middle = middle; fault = reason; known = known; reason = LeftOut same; line = told })
fault_told takes failures notes is_noted came reason from to old middle new known (WithNotes failed noted) told =
    AfterNotes middle reason known failed noted told

-- the line of a fault after the one that says why
pub told_why : {O F : Type 0} (takes : O → List ℕ → O → Type 0) (failures : O → ℕ) (notes : OutletGhosts F)
    (is_noted : F → F → Type 0) (came : Fault → Type 0) (reason : Fault) (from to : O) (old middle new : F) → came reason
    → middle ≡ old → IsReasonTold notes.takes notes.failures (λ it. it ≡ reason) middle new
    → IsFaultTold takes failures notes is_noted came from to old new
told_why takes failures notes is_noted came reason from to old middle new known same told =
    AfterReason (rw same at
    (told_as notes.takes notes.failures (λ it. it ≡ reason) came middle new (λ it is. subst came (sym is) known) told))

-- what holds of an error, where there is this one
pub on_err_of : {T E P : Type 0} (result : Result T E) (error : E) → result ≡ Err error → OnErr result P → P
on_err_of (Ok value) error is holds = absurd (cc)
on_err_of (Err cause) error is holds = holds

-- the line of a fault of the system after the one that says why, and that after what is noted
pub told_refused : {O F : Type 0} (takes : O → List ℕ → O → Type 0) (failures : O → ℕ) (notes : OutletGhosts F)
    (is_noted : F → F → Type 0) (came : Fault → Type 0) (reason : Fault) (from to : O) (old middle new : F)
    → IsOfSystem reason → came reason → to ≡ from → IsSilentOrNoted takes failures is_noted from to old middle
    → IsReasonTold notes.takes notes.failures (λ it. it ≡ reason) middle new
    → IsFaultTold takes failures notes is_noted came from to old new
told_refused takes failures notes is_noted came reason from to old middle new system known stays (Silent same) told =
    told_why takes failures notes is_noted came reason from to old middle new known same told
told_refused takes failures notes is_noted came reason from to old middle new system known stays (WithNotes failed noted) told =
    AfterRefusal middle stays noted
    (told_as notes.takes notes.failures (λ it. it ≡ reason) (λ it. came it × IsOfSystem it) middle new
    (λ it is. (subst came (sym is) known, subst IsOfSystem (sym is) system)) told)

-- the same of the address that clients are to connect to, whether it is none or the system refuses it
pub told_listen : {O F : Type 0} (takes : O → List ℕ → O → Type 0) (failures : O → ℕ) (notes : OutletGhosts F)
    (is_noted : F → F → Type 0) (came : Fault → Type 0) (cause : ListenFault) (from to : O) (old middle new : F)
    → came (fault.Listen cause) → to ≡ from → IsSilentOrNoted takes failures is_noted from to old middle
    → (IsOfOptions (fault.Listen cause) → middle ≡ old)
    → IsReasonTold notes.takes notes.failures (λ it. it ≡ fault.Listen cause) middle new
    → IsFaultTold takes failures notes is_noted came from to old new
told_listen takes failures notes is_noted came listen_fault.NoAddress from to old middle new known stays noted silent told =
    told_why takes failures notes is_noted came (fault.Listen listen_fault.NoAddress) from to old middle new known (silent tt) told
told_listen takes failures notes is_noted came (listen_fault.System words) from to old middle new known stays noted silent told =
    told_refused takes failures notes is_noted came (fault.Listen (listen_fault.System words)) from to old middle new tt known stays
    noted told

-- and of that of the metrics
pub told_metrics : {O F : Type 0} (takes : O → List ℕ → O → Type 0) (failures : O → ℕ) (notes : OutletGhosts F)
    (is_noted : F → F → Type 0) (came : Fault → Type 0) (cause : ListenFault) (from to : O) (old middle new : F)
    → came (fault.Metrics cause) → to ≡ from → IsSilentOrNoted takes failures is_noted from to old middle
    → (IsOfOptions (fault.Metrics cause) → middle ≡ old)
    → IsReasonTold notes.takes notes.failures (λ it. it ≡ fault.Metrics cause) middle new
    → IsFaultTold takes failures notes is_noted came from to old new
told_metrics takes failures notes is_noted came listen_fault.NoAddress from to old middle new known stays noted silent told =
    told_why takes failures notes is_noted came (fault.Metrics listen_fault.NoAddress) from to old middle new known (silent tt) told
told_metrics takes failures notes is_noted came (listen_fault.System words) from to old middle new known stays noted silent told =
    told_refused takes failures notes is_noted came (fault.Metrics (listen_fault.System words)) from to old middle new tt known stays
    noted told

-- what is known of the fault, and what was noted, say more
pub fault_as : {O F : Type 0} (takes : O → List ℕ → O → Type 0) (failures : O → ℕ) (notes : OutletGhosts F)
    (is_noted also : F → F → Type 0) (came other : Fault → Type 0) (from to : O) (old new : F)
    → ((middle : F) → is_noted old middle → also old middle)
    → ((fault : Fault) → came fault → other fault) → IsFaultTold takes failures notes is_noted came from to old new
    → IsFaultTold takes failures notes also other from to old new
fault_as takes failures notes is_noted also came other from to old new more next (AfterReason told) =
    AfterReason (told_as notes.takes notes.failures came other old new next told)
fault_as takes failures notes is_noted also came other from to old new more next (AfterNotes middle reason known failed noted told) =
    AfterNotes middle reason (next reason known) failed (more middle noted) told
fault_as takes failures notes is_noted also came other from to old new more next (AfterRefusal middle stays noted told) =
    AfterRefusal middle stays (more middle noted)
    (told_as notes.takes notes.failures (λ it. came it × IsOfSystem it) (λ it. other it × IsOfSystem it) middle new
    (λ it known. (next it known.0, known.1)) told)

-- what was read from the words, where a command was
pub asked_of : (result : Result Asked Refusal) (words : List (List ℕ)) (asked : Asked) → result ≡ Ok asked
    → IfOk result (IsReadFrom words) → IsReadFrom words asked
asked_of (Ok it) words asked is read = let same : it ≡ asked = cc in subst (λ one. IsReadFrom words one) same read
asked_of (Err it) words asked is read = absurd (cc)

-- and where none was
pub refused_of : (result : Result Asked Refusal) (words : List (List ℕ)) (shown : Refusal) → result ≡ Err shown
    → IfErr result (IsRefusal words) → IsRefusal words shown
refused_of (Ok it) words shown is refused = absurd (cc)
refused_of (Err it) words shown is refused = let same : it ≡ shown = cc in subst (λ one. IsRefusal words one) same refused
