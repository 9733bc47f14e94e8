-- A settings fault is handed on under its name.
use Rattle.std.proofs.Common.{◌≡◌, List, replicate, rules, subst, sym}
use Rattle.tko_steps.specs.declared.phase.ThreadState.{ThreadState}
use Rattle.tko_steps.specs.declared.phase.ThreadState.TheVariants.{NotEnrolled}
use Rattle.tko_steps.specs.Core.{opened_words}
use Rattle.tko_steps.specs.Invariant.{IsCore}
use Rattle.tko_steps.proofs.BeginLemmas.{IsCore-opened_core}
use Rattle.std.proofs.lemmas.Result.{err_from_is_err_and}
use Rattle.tko_steps.proofs.atomic.Core.open.Goals as goal

pub returns-in-Err-clause-settings : goal.returns-in-Err-clause-settings
returns-in-Err-clause-settings c = λ fault.
    let told = c.in-Err.ensures.err fault in (λ e. told.0 cc, λ h. let same = told.1 h in cc)

-- where the settings pass, there is no fault of theirs
pub returns-in_err-words-clause-settings : goal.returns-in_err-words-clause-settings
returns-in_err-words-clause-settings c =
    let p = err_from_is_err_and c.from_residual.result c.from_residual.ensures.1 in
    λ fault. (
      λ e. absurd (cc (e, p.1, p.2)),
      λ h. absurd (cc ((c.check.ensures.err fault).1 h, c.in_default.is)),
    )

pub returns-in_err-threads-clause-settings : goal.returns-in_err-threads-clause-settings
returns-in_err-threads-clause-settings c =
    let p = err_from_is_err_and c.from_residual-in_err-threads.result c.from_residual-in_err-threads.ensures.1 in
    λ fault. (
      λ e. absurd (cc (e, p.1, p.2)),
      λ h. absurd (cc ((c.check.ensures.err fault).1 h, c.in_default.is)),
    )

pub returns-clause-settings : goal.returns-clause-settings
returns-clause-settings c = λ fault. (
  λ e. absurd (cc e),
  λ h. absurd (cc ((c.check.ensures.err fault).1 h, c.in_default.is)),
)

pub invariant_of-result : goal.invariant_of-result
invariant_of-result c =
    let s = c.args.settings in
    let P : List ThreadState → Type 0 = λ threads. IsCore (record { settings = s; shared = opened_words s; threads = threads }) in
    let made : c.in_ok-threads.threads.items ≡ replicate s.threads NotEnrolled = search rules in
    rw c.in_ok-words.ensures (subst P (sym made) (IsCore-opened_core s (search rules)))
