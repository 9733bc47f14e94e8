use Rattle.std.proofs.Common.{rules, ◌≡◌, inr, length, arith}
use Rattle.std.proofs.lemmas.Result.{err_from_is_err_and}
use Rattle.tko_runs.proofs.CommandLemmas.{has_read-all, has_read-bad, has_read-more, lines_of-empty}
use Rattle.tko_runs.proofs.schedule.commands.read_commands.Goals as goal

pub returns-in_err-command-clause-err : goal.returns-in_err-command-clause-err
returns-in_err-command-clause-err c =
    let p = err_from_is_err_and c.from_residual.result c.from_residual.ensures.1 in
    let len : c.len.result ≡ length c.loop-rest.commands.items = search rules in
    let so_far = rw c.first_line.ensures.lines at c.loop-rest.invariant in
    rw (p.1, p.2, c.in_err-command.ensures.line, len)
    (inr (has_read-bad c.args.before _ _ _ _ so_far (rw len at c.in_err-command.ensures.err)))

pub loop-rest-preserved : goal.loop-rest-preserved
loop-rest-preserved c =
    let len : c.len.result ≡ length c.loop-rest.commands.items = search rules in
    let so_far = rw c.first_line.ensures.lines at c.loop-rest.invariant in
    rw c.in_ok-keep.ensures
    (has_read-more _ _ _ _ _ so_far (rw len at c.in_ok-command.ensures.few) c.in_ok-command.ensures.ok)

pub returns-clause-ok : goal.returns-clause-ok
returns-clause-ok c =
    has_read-all c.args.before _ _ (rw (lines_of-empty c.loop-rest.rest.now (grind arith)) at c.loop-rest.invariant)
