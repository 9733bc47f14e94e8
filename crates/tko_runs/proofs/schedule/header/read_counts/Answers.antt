use Rattle.std.proofs.lemmas.Result.{err_from_is_err_and}
use Rattle.tko_runs.proofs.HeaderLemmas.{counts_in-has, counts_in-lacks1, counts_in-lacks2, counts_in-lacks3, counts_in-rest, is_fault}
use Rattle.tko_runs.proofs.schedule.header.read_counts.Goals as goal

pub returns-in_err-servers-clause-err : goal.returns-in_err-servers-clause-err
returns-in_err-servers-clause-err c =
    let p = err_from_is_err_and c.from_residual.result c.from_residual.ensures.1 in
    rw (p.1, p.2) (is_fault _ _ (counts_in-lacks1 _ _ c.in_err-servers.ensures.err))

pub returns-in_err-threads-clause-err : goal.returns-in_err-threads-clause-err
returns-in_err-threads-clause-err c =
    let p = err_from_is_err_and c.from_residual-in_err-threads.result c.from_residual-in_err-threads.ensures.1 in
    rw (p.1, p.2) (is_fault _ _ (counts_in-lacks2 _ _ _ _ c.in_ok-servers.ensures.ok c.in_err-threads.ensures.err))

pub returns-in_err-failures-clause-err : goal.returns-in_err-failures-clause-err
returns-in_err-failures-clause-err c =
    let p = err_from_is_err_and c.from_residual-in_err-failures.result c.from_residual-in_err-failures.ensures.1 in
    rw (p.1, p.2) (is_fault _ _ (counts_in-lacks3 _ _ _ _ _ _ c.in_ok-servers.ensures.ok c.in_ok-threads.ensures.ok c.in_err-failures.ensures.err))

pub returns-clause-ok : goal.returns-clause-ok
returns-clause-ok c =
    rw (c.in_field.ensures, c.in_field-2.ensures, c.in_field-3.ensures)
    (counts_in-has _ _ _ _ _ _ _ c.in_ok-servers.ensures.ok c.in_ok-threads.ensures.ok c.in_ok-failures.ensures.ok)

pub returns-clause-rest : goal.returns-clause-rest
returns-clause-rest c = counts_in-rest _ _ _ _ _ _ _ c.in_ok-servers.ensures.ok c.in_ok-threads.ensures.ok c.in_ok-failures.ensures.ok
