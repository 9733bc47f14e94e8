use Rattle.std.proofs.Common.{⊎_elim}
use Rattle.std.proofs.lemmas.Result.{err_from_is_err_and}
use Rattle.tko_runs.proofs.HeaderLemmas.{groups_in-has, groups_in-lacks1, groups_in-lacks2, groups_in-lacks3, groups_in-lacks4, groups_in-rest, is_fault, is_memory}
use Rattle.tko_runs.proofs.schedule.header.read_groups.Goals as goal

pub returns-in_err-limits-clause-err : goal.returns-in_err-limits-clause-err
returns-in_err-limits-clause-err c =
    let p = err_from_is_err_and c.from_residual.result c.from_residual.ensures.1 in
    rw (p.1, p.2) (⊎_elim (is_memory _ _) (λ bad. is_fault _ _ (groups_in-lacks1 c.args.counts _ _ bad)) c.in_err-limits.ensures.err)

pub returns-in_err-groups-clause-err : goal.returns-in_err-groups-clause-err
returns-in_err-groups-clause-err c =
    let p = err_from_is_err_and c.from_residual-in_err-groups.result c.from_residual-in_err-groups.ensures.1 in
    rw (p.1, p.2) (⊎_elim (is_memory _ _) (λ bad. is_fault _ _ (groups_in-lacks2 c.args.counts _ _ _ _ c.in_ok-limits.ensures.ok bad)) c.in_err-groups.ensures.err)

pub returns-in_err-tries-clause-err : goal.returns-in_err-tries-clause-err
returns-in_err-tries-clause-err c =
    let p = err_from_is_err_and c.from_residual-in_err-tries.result c.from_residual-in_err-tries.ensures.1 in
    rw (p.1, p.2) (is_fault _ _ (groups_in-lacks3 c.args.counts _ _ _ _ _ _ c.in_ok-limits.ensures.ok c.in_ok-groups.ensures.ok c.in_err-tries.ensures.err))

pub returns-in_err-stamp-clause-err : goal.returns-in_err-stamp-clause-err
returns-in_err-stamp-clause-err c =
    let p = err_from_is_err_and c.from_residual-in_err-stamp.result c.from_residual-in_err-stamp.ensures.1 in
    rw (p.1, p.2) (is_fault _ _ (groups_in-lacks4 c.args.counts _ _ _ _ _ _ _ _ c.in_ok-limits.ensures.ok c.in_ok-groups.ensures.ok c.in_ok-tries.ensures.ok c.in_err-stamp.ensures.err))

pub returns-clause-ok : goal.returns-clause-ok
returns-clause-ok c =
    rw (c.with_groups-settings.ensures, c.in_field.ensures)
    (groups_in-has c.args.counts _ _ _ _ _ _ _ _ _ c.in_ok-limits.ensures.ok c.in_ok-groups.ensures.ok c.in_ok-tries.ensures.ok c.in_ok-stamp.ensures.ok)

pub returns-clause-rest : goal.returns-clause-rest
returns-clause-rest c = groups_in-rest _ _ _ _ _ _ _ _ _ c.in_ok-limits.ensures.ok c.in_ok-groups.ensures.ok c.in_ok-tries.ensures.ok c.in_ok-stamp.ensures.ok
