use Rattle.std.proofs.Common.{◌∙◌, ap, refl, Err}
use Rattle.std.proofs.lemmas.Result.{err_from_is_err_and}
use Rattle.tko_server.proofs.RunLemmas.{done_well, not_opened, passed_on}
use Rattle.tko_server.proofs.opening.opened.Goals as goal

pub returns-in_err-settings-clause-settings : goal.returns-in_err-settings-clause-settings
returns-in_err-settings-clause-settings c =
    let p = err_from_is_err_and c.from_residual.result c.from_residual.ensures.1 in
    passed_on _ _ _ c.in_err-settings.field-0.0 refl (p.1 ∙ ap Err p.2) c.in_err-settings.ensures.err

pub returns-in_err-open-clause-settings : goal.returns-in_err-open-clause-settings
returns-in_err-open-clause-settings c =
    let p = err_from_is_err_and c.from_residual-in_err-open.result c.from_residual-in_err-open.ensures.1 in
    not_opened _ _ _ c.in_err-open.field-0.0 refl
    (rw c.in_ok-settings.ensures.ok at c.in_err-open.ensures.settings) (p.1 ∙ ap Err p.2)

pub returns-clause-settings : goal.returns-clause-settings
returns-clause-settings c = done_well _ _ _ _ _ refl refl c.in_ok-settings.ensures.err
