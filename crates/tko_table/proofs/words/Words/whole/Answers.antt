use Rattle.std.proofs.Common.{rules, subst}
use Rattle.std.proofs.lemmas.Result.{err_from_is_err_and}
use Rattle.tko_table.specs.Rule.{IsOpened}
use Rattle.tko_table.proofs.OpenLemmas.{opened-kept}
use Rattle.tko_table.proofs.words.Words.whole.Goals as goal

pub of_words-requires : goal.of_words-requires
of_words-requires c =
    opened-kept c.args.settings _ (search rules) (subst (IsOpened c.args.settings) (search rules) c.in_ok-words.ensures.opened)

pub returns-in-Err-clause-settings : goal.returns-in-Err-clause-settings
returns-in-Err-clause-settings c = λ fault.
    let told = c.in-Err.ensures.err fault in (λ e. told.0 cc, λ h. let same = told.1 h in cc)

-- where the settings pass, there is no fault of theirs
pub returns-in_err-words-clause-settings : goal.returns-in_err-words-clause-settings
returns-in_err-words-clause-settings c =
    let p = err_from_is_err_and c.from_residual.result c.from_residual.ensures.1 in
    λ fault. (
      λ e. absurd (cc (e, p.1, p.2)),
      λ h. absurd (cc ((c.check.ensures.err fault).1 h, c.in_default.is)),
    )

pub returns-in_err-table-clause-settings : goal.returns-in_err-table-clause-settings
returns-in_err-table-clause-settings c =
    let p = err_from_is_err_and c.from_residual-in_err-table.result c.from_residual-in_err-table.ensures.1 in
    λ fault. (
      λ e. absurd (cc (e, p.1, p.2)),
      λ h. absurd (cc ((c.check.ensures.err fault).1 h, c.in_default.is)),
    )

pub returns-clause-settings : goal.returns-clause-settings
returns-clause-settings c = λ fault. (
  λ e. absurd (cc e),
  λ h. absurd (cc ((c.check.ensures.err fault).1 h, c.in_default.is)),
)
