use Rattle.std.proofs.Common.{refl}
use Rattle.tko_health.proofs.SeatingLemmas.{all_below, same_error}
use Rattle.tko_health.proofs.locked_seating.LockedSeating.open.Goals as goal

pub returns-in-Err-clause-settings : goal.returns-in-Err-clause-settings
returns-in-Err-clause-settings g c = λ fault.
    let same = c.in-Err.ensures.settings fault in
    (λ e. same.0 (same_error _ _ _ _ refl refl refl refl e), λ first. same_error _ _ _ _ refl refl refl refl (same.1 first))

pub returns-in-Ok-idle_seats-clause-own : goal.returns-in-Ok-idle_seats-clause-own
returns-in-Ok-idle_seats-clause-own g c =
    all_below g.S.TrackerSettings.settings.threads c.in-Ok-idle_seats.seats.items c.in-Ok-idle_seats.ensures

-- where the tracker opens, there is no fault of the settings
pub returns-in-Ok-idle_seats-clause-settings : goal.returns-in-Ok-idle_seats-clause-settings
returns-in-Ok-idle_seats-clause-settings g c = λ fault. (
  λ e. absurd (cc e),
  λ h. absurd (cc ((c.open.ensures.settings fault).1 h, c.in-Ok.is)),
)

pub returns-in-Err-idle_seats-clause-settings : goal.returns-in-Err-idle_seats-clause-settings
returns-in-Err-idle_seats-clause-settings g c = λ fault. (
  λ e. absurd (cc e),
  λ h. absurd (cc ((c.open.ensures.settings fault).1 h, c.in-Ok.is)),
)
