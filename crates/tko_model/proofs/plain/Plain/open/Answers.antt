-- The settings' fault is handed on under its own name, and no other.
use Rattle.std.proofs.Common.{◌≡◌, Err, refl}
use Rattle.std.proofs.lemmas.Result.{err_from_is_err_and}
use Rattle.tko_model.proofs.plain.Plain.open.Goals as goal

pub returns-in-Err-clause-settings : goal.returns-in-Err-clause-settings
returns-in-Err-clause-settings c = λ fault. (
  λ e. let same : c.in-Err.fault ≡ fault = cc e in (c.check.ensures.err fault).0 (rw (← same) c.in-Err.is),
  λ h.
      let told : c.check.result ≡ Err fault = (c.check.ensures.err fault).1 h in
      let same : c.in-Err.fault ≡ fault = cc (told, c.in-Err.is) in
      rw same refl,
)

-- where the settings pass, there is no fault of theirs
pub returns-in_err-servers-clause-settings : goal.returns-in_err-servers-clause-settings
returns-in_err-servers-clause-settings c =
    let p = err_from_is_err_and c.from_residual.result c.from_residual.ensures.1 in
    λ fault. (
      λ e. absurd (cc (e, p.1, p.2)),
      λ h. absurd (cc ((c.check.ensures.err fault).1 h, c.in_default.is)),
    )

pub returns-clause-settings : goal.returns-clause-settings
returns-clause-settings c = λ fault. (
  λ e. absurd (cc e),
  λ h. absurd (cc ((c.check.ensures.err fault).1 h, c.in_default.is)),
)
