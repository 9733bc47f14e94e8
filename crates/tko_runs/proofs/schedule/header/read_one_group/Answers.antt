use Rattle.std.proofs.lemmas.Result.{err_from_is_err_and}
use Rattle.tko_runs.proofs.HeaderLemmas.{is_fault, one_group_in-has, one_group_in-lacks1, one_group_in-lacks2, one_group_in-lacks3, one_group_in-rest}
use Rattle.tko_runs.proofs.schedule.header.read_one_group.Goals as goal

pub returns-in_err-limit-clause-err : goal.returns-in_err-limit-clause-err
returns-in_err-limit-clause-err c =
    let p = err_from_is_err_and c.from_residual.result c.from_residual.ensures.1 in
    rw (p.1, p.2) (is_fault _ _ (one_group_in-lacks1 c.args.counts _ _ c.in_err-limit.ensures.err))

pub returns-in_err-tries-clause-err : goal.returns-in_err-tries-clause-err
returns-in_err-tries-clause-err c =
    let p = err_from_is_err_and c.from_residual-in_err-tries.result c.from_residual-in_err-tries.ensures.1 in
    rw (p.1, p.2) (is_fault _ _ (one_group_in-lacks2 c.args.counts _ _ _ _ c.in_ok-limit.ensures.ok c.in_err-tries.ensures.err))

pub returns-in_err-stamp-clause-err : goal.returns-in_err-stamp-clause-err
returns-in_err-stamp-clause-err c =
    let p = err_from_is_err_and c.from_residual-in_err-stamp.result c.from_residual-in_err-stamp.ensures.1 in
    rw (p.1, p.2) (is_fault _ _ (one_group_in-lacks3 c.args.counts _ _ _ _ _ _ c.in_ok-limit.ensures.ok c.in_ok-tries.ensures.ok c.in_err-stamp.ensures.err))

pub returns-clause-ok : goal.returns-clause-ok
returns-clause-ok c =
    rw (c.in_ok-settings.ensures, c.in_field.ensures, c.in_field-2.ensures)
    (one_group_in-has c.args.counts _ _ _ _ _ _ _ c.in_ok-limit.ensures.ok c.in_ok-tries.ensures.ok c.in_ok-stamp.ensures.ok)

pub returns-clause-rest : goal.returns-clause-rest
returns-clause-rest c = one_group_in-rest _ _ _ _ _ _ _ c.in_ok-limit.ensures.ok c.in_ok-tries.ensures.ok c.in_ok-stamp.ensures.ok
