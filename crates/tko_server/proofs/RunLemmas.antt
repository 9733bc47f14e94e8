-- Why a server ends, from what opening its tracker came to.
use Rattle.std.proofs.Common.{◌≡◌, ℕ, Result, Ok, Err, Option, Some, subst}
use Rattle.std.specs.Prelude.{◌↔◌}
use Rattle.tko_model.specs.Ranges.{first_fault}
use Rattle.tko_model.specs.declared.plain.OpenFault.{OpenFault}
use Rattle.tko_model.specs.declared.plain.OpenFault.TheVariants as opening
use Rattle.tko_model.specs.Settings.{Settings, with_servers}
use Rattle.tko_model.specs.declared.settings.SettingsFault.{SettingsFault}
use Rattle.tko_server.specs.declared.run_fault.ServerRunFault.{ServerRunFault}
use Rattle.tko_server.specs.declared.run_fault.ServerRunFault.TheVariants as run
use Rattle.tko_server.specs.Runs.{IsAfterOpening, run_fault_of_opening}

-- the tracker was not opened
pub not_opened : {T U : Type 0} (opened : Result T OpenFault) (ended : Result U ServerRunFault)
    (first : Option SettingsFault) (cause : OpenFault) → opened ≡ Err cause
    → ((fault : SettingsFault) → (opened ≡ Err (opening.Settings fault)) ↔ (first ≡ Some fault))
    → ended ≡ Err (run_fault_of_opening cause)
    → (fault : SettingsFault) → (ended ≡ Err (run.Settings fault)) ↔ (first ≡ Some fault)
not_opened opened ended first (opening.Settings setting) is told ends fault = (
  λ e. let same : setting ≡ fault = cc in (told fault).0 (rw (← same) is),
  λ h.
      let cause : opened ≡ Err (opening.Settings fault) = (told fault).1 h in
      let same : setting ≡ fault = cc in rw (← same) ends,
)
not_opened opened ended first opening.Memory is told ends fault = (
  λ e. cc,
  λ h. let cause : opened ≡ Err (opening.Settings fault) = (told fault).1 h in cc,
)

-- the settings were refused
pub refused : {T U : Type 0} (checked : Result T SettingsFault) (ended : Result U ServerRunFault)
    (first : Option SettingsFault) (cause : SettingsFault) → checked ≡ Err cause → ended ≡ Err (run.Settings cause)
    → ((fault : SettingsFault) → (checked ≡ Err fault) ↔ (first ≡ Some fault))
    → (fault : SettingsFault) → (ended ≡ Err (run.Settings fault)) ↔ (first ≡ Some fault)
refused checked ended first cause is ends told fault = (
  λ e. let same : cause ≡ fault = cc in (told fault).0 (rw (← same) is),
  λ h.
      let named : checked ≡ Err fault = (told fault).1 h in
      let same : cause ≡ fault = cc in rw (← same) ends,
)

-- the settings passed, and memory ran out behind that
pub out_of_memory : {T U : Type 0} (checked : Result T SettingsFault) (ended : Result U ServerRunFault)
    (first : Option SettingsFault) (value : T) → checked ≡ Ok value → ended ≡ Err run.Memory
    → ((fault : SettingsFault) → (checked ≡ Err fault) ↔ (first ≡ Some fault))
    → (fault : SettingsFault) → (ended ≡ Err (run.Settings fault)) ↔ (first ≡ Some fault)
out_of_memory checked ended first value is ends told fault = (
  λ e. cc,
  λ h. let named : checked ≡ Err fault = (told fault).1 h in cc,
)

-- the settings passed, and so did what came behind that
pub all_well : {T U : Type 0} (checked : Result T SettingsFault) (ended : Result U ServerRunFault)
    (first : Option SettingsFault) (value : T) (result : U) → checked ≡ Ok value → ended ≡ Ok result
    → ((fault : SettingsFault) → (checked ≡ Err fault) ↔ (first ≡ Some fault))
    → (fault : SettingsFault) → (ended ≡ Err (run.Settings fault)) ↔ (first ≡ Some fault)
all_well checked ended first value result is ends told fault = (
  λ e. cc,
  λ h. let named : checked ≡ Err fault = (told fault).1 h in cc,
)

-- a fault is passed on
pub passed_on : {T U : Type 0} (one : Result T ServerRunFault) (other : Result U ServerRunFault)
    (first : Option SettingsFault) (cause : ServerRunFault) → one ≡ Err cause → other ≡ Err cause
    → ((fault : SettingsFault) → (one ≡ Err (run.Settings fault)) ↔ (first ≡ Some fault))
    → (fault : SettingsFault) → (other ≡ Err (run.Settings fault)) ↔ (first ≡ Some fault)
passed_on one other first cause is ends told fault = (
  λ e. let same : cause ≡ run.Settings fault = cc in (told fault).0 (rw (← same) is),
  λ h.
      let named : one ≡ Err (run.Settings fault) = (told fault).1 h in
      let same : cause ≡ run.Settings fault = cc in rw (← same) ends,
)

-- it ended well, and a part of what it came to is passed on
pub done_well : {T U : Type 0} (one : Result T ServerRunFault) (other : Result U ServerRunFault)
    (first : Option SettingsFault) (value : T) (part : U) → one ≡ Ok value → other ≡ Ok part
    → ((fault : SettingsFault) → (one ≡ Err (run.Settings fault)) ↔ (first ≡ Some fault))
    → (fault : SettingsFault) → (other ≡ Err (run.Settings fault)) ↔ (first ≡ Some fault)
done_well one other first value part is ends told fault = (
  λ e. cc,
  λ h. let named : one ≡ Err (run.Settings fault) = (told fault).1 h in cc,
)

-- the same of an equal number of servers
pub of_servers : {U : Type 0} (ended : Result U ServerRunFault) (settings : Settings) (one other : ℕ)
    → one ≡ other
    → ((fault : SettingsFault) → (ended ≡ Err (run.Settings fault))
    ↔ (first_fault (with_servers one settings) ≡ Some fault))
    → (fault : SettingsFault) → (ended ≡ Err (run.Settings fault))
    ↔ (first_fault (with_servers other settings) ≡ Some fault)
of_servers ended settings one other same told =
    let P : ℕ → Type 0 = λ n. (fault : SettingsFault) → (ended ≡ Err (run.Settings fault))
    ↔ (first_fault (with_servers n settings) ≡ Some fault) in
    subst P same told

-- the settings passed, and the run failed behind that
pub failed_later : {T U : Type 0} (one : Result T ServerRunFault) (other : Result U ServerRunFault)
    (first : Option SettingsFault) (value : T) (cause : ServerRunFault) → one ≡ Ok value → other ≡ Err cause → IsAfterOpening cause
    → ((fault : SettingsFault) → (one ≡ Err (run.Settings fault)) ↔ (first ≡ Some fault))
    → (fault : SettingsFault) → (other ≡ Err (run.Settings fault)) ↔ (first ≡ Some fault)
failed_later one other first value (run.Settings name) is ends after told fault = absurd after
failed_later one other first value run.Memory is ends after told fault = (
  λ e. cc,
  λ h. let named : one ≡ Err (run.Settings fault) = (told fault).1 h in cc,
)
failed_later one other first value run.Announce is ends after told fault = (
  λ e. cc,
  λ h. let named : one ≡ Err (run.Settings fault) = (told fault).1 h in cc,
)
failed_later one other first value run.Accept is ends after told fault = (
  λ e. cc,
  λ h. let named : one ≡ Err (run.Settings fault) = (told fault).1 h in cc,
)
