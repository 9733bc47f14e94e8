use Rattle.std.proofs.lemmas.Result.{IfErr-weaker, err_from_is_err_and}
use Rattle.tko_cli.proofs.NoticeLemmas.{more_notices, no_notice}
use Rattle.tko_cli.proofs.ServingLemmas.{prepared_runs, unopened_fails}
use Rattle.tko_cli.proofs.serving.run_named.Goals as goal

pub returns-in_err-prepared-clause-err : goal.returns-in_err-prepared-clause-err
returns-in_err-prepared-clause-err g c =
    let p = err_from_is_err_and c.from_residual.result c.from_residual.ensures.1 in
    rw (p.1, p.2)
    (unopened_fails g.O.Outlet.takes g.O.Outlet.failures c.args.options.now c.args.output.now c.in_err-prepared.field-0.0
    c.in_err-prepared.ensures.err)

pub returns-in_err-prepared-clause-noted : goal.returns-in_err-prepared-clause-noted
returns-in_err-prepared-clause-noted g c = no_notice g.F.Outlet.takes g.F.Outlet.failures c.args.faults.now

pub returns-clause-err : goal.returns-clause-err
returns-clause-err g c =
    IfErr-weaker c.run_prepared.result _ _
    (λ fault fails. prepared_runs g.O.Outlet.takes g.O.Outlet.failures c.args.options.now c.args.output.now
    c.run_prepared.new.output fault fails)
    c.run_prepared.ensures.err

pub returns-clause-noted : goal.returns-clause-noted
returns-clause-noted g c =
    more_notices g.F.Outlet.takes g.F.Outlet.failures c.args.faults.now c.note_memory.new.faults c.run_prepared.new.faults
    c.note_memory.ensures c.run_prepared.ensures.noted
