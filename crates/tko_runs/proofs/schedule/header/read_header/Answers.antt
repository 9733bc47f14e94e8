use Rattle.std.proofs.lemmas.Result.{err_from_is_err_and}
use Rattle.tko_runs.proofs.HeaderLemmas.{header-has, header-lacks_counts, header-lacks_settings, header-lacks_title, header-rest, is_fault, passes}
use Rattle.tko_runs.proofs.schedule.header.read_header.Goals as goal

pub returns-in_err-version-clause-err : goal.returns-in_err-version-clause-err
returns-in_err-version-clause-err c =
    let p = err_from_is_err_and c.from_residual.result c.from_residual.ensures.1 in
    rw (p.1, p.2) (is_fault _ _ (header-lacks_title _ _ c.in_err-version.ensures.err))

pub returns-in_err-counts-clause-err : goal.returns-in_err-counts-clause-err
returns-in_err-counts-clause-err c =
    let p = err_from_is_err_and c.from_residual-in_err-counts.result c.from_residual-in_err-counts.ensures.1 in
    rw (p.1, p.2) (passes _ _ _ (header-lacks_counts _ _ _ _ c.in_ok-version.ensures.ok) c.in_err-counts.ensures.err)

pub returns-in_err-settings-clause-err : goal.returns-in_err-settings-clause-err
returns-in_err-settings-clause-err c =
    let p = err_from_is_err_and c.from_residual-in_err-settings.result c.from_residual-in_err-settings.ensures.1 in
    rw (p.1, p.2) (
    passes _ _ _
    (header-lacks_settings _ _ _ _ _ _ c.in_ok-version.ensures.ok c.in_ok-counts.ensures.ok c.in_ok-counts.ensures.rest)
    c.in_err-settings.ensures.err)

pub returns-clause-ok : goal.returns-clause-ok
returns-clause-ok c =
    header-has _ _ _ _ _ _ c.in_ok-version.ensures.ok c.in_ok-counts.ensures.ok c.in_ok-counts.ensures.rest c.in_ok-settings.ensures.ok

pub returns-clause-rest : goal.returns-clause-rest
returns-clause-rest c =
    header-rest _ _ _ _ _ c.in_ok-version.ensures.ok c.in_ok-counts.ensures.rest c.in_ok-settings.ensures.rest
