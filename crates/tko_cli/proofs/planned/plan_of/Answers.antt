use Rattle.std.proofs.lemmas.Result.{err_from_is_err_and}
use Rattle.tko_cli.proofs.PlannedLemmas.{no_settings}
use Rattle.tko_cli.proofs.planned.plan_of.Goals as goal

pub returns-in_err-settings-clause-err : goal.returns-in_err-settings-clause-err
returns-in_err-settings-clause-err c =
    let p = err_from_is_err_and c.from_residual-in_err-settings.result c.from_residual-in_err-settings.ensures.1 in
    let none = rw c.servers.ensures at (rw c.settings.ensures at c.in_err-settings.ensures.err) in
    rw (p.1, p.2)
    (no_settings c.args.options.now c.in_ok-config.config c.in_err-settings.field-0.0
    (rw c.as_bytes.ensures.value at c.in_ok-config.ensures.ok) none)
