use Rattle.std.proofs.Common.{◌≡◌, ◌∙◌, Err, ap, subst, sym}
use Rattle.std.proofs.lemmas.Result.{err_from_is_err_and}
use Rattle.tko_model.specs.declared.plain.OpenFault.{OpenFault}
use Rattle.tko_table.specs.Opening.{HasPassesFrom}
use Rattle.tko_table.specs.Steps.{view_of}
use Rattle.tko_table.proofs.OpeningLemmas.{opened-passes}
use Rattle.tko_table.proofs.words.Words.open.Goals as goal

pub enrol_all-requires-clause-new : goal.enrol_all-requires-clause-new
enrol_all-requires-clause-new c =
    let told = c.in_ok-words.ensures.ok in
    let view = ap (λ me. me.0) told.2 in
    subst (λ s. HasPassesFrom s 0 0 (view_of c.in_ok-words.seat)) (sym told.0)
    (subst (HasPassesFrom c.args.settings 0 0) (sym view) (opened-passes c.args.settings))

pub returns-in_err-words-clause-settings : goal.returns-in_err-words-clause-settings
returns-in_err-words-clause-settings c = λ fault.
    let p = err_from_is_err_and c.from_residual.result c.from_residual.ensures.1 in
    let told = c.whole.ensures.settings fault in (
      (λ e.
          let same : p.0 ≡ OpenFault.Settings fault = cc (p.1, e) in
          told.0 (c.in_err-words.was ∙ ap Err (sym p.2 ∙ same))),
      (λ h.
          let is = told.1 h in
          let same : c.in_err-words.field-0.0 ≡ OpenFault.Settings fault = cc (c.in_err-words.was, is) in
          p.1 ∙ ap Err (p.2 ∙ same)),
    )

-- where the words open, there is no fault of the settings
pub returns-in_err-seats-clause-settings : goal.returns-in_err-seats-clause-settings
returns-in_err-seats-clause-settings c =
    let p = err_from_is_err_and c.from_residual-in_err-seats.result c.from_residual-in_err-seats.ensures.1 in
    λ fault. (
      λ e. absurd (cc (e, p.1, p.2)),
      λ h. absurd (cc ((c.whole.ensures.settings fault).1 h, c.in_ok-words.was)),
    )

pub returns-clause-settings : goal.returns-clause-settings
returns-clause-settings c = λ fault. (
  λ e. absurd (cc e),
  λ h. absurd (cc ((c.whole.ensures.settings fault).1 h, c.in_ok-words.was)),
)
