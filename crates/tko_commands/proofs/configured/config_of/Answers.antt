use Rattle.std.proofs.lemmas.Result.{err_from_is_err_and}
use Rattle.tko_commands.proofs.ConfiguredLemmas.{unset}
use Rattle.tko_commands.proofs.configured.config_of.Goals as goal

pub returns-in_err-settings_within-in-None-clause-err : goal.returns-in_err-settings_within-in-None-clause-err
returns-in_err-settings_within-in-None-clause-err c =
    let p = err_from_is_err_and c.from_residual-in_err-settings_within-in-None.result
    c.from_residual-in_err-settings_within-in-None.ensures.1 in
    rw (p.1, p.2)
    (unset c.args.options.now c.in_err-settings_within-in-None.field-0.0 c.in-None.is
    (rw c.settings.ensures at c.in_err-settings_within-in-None.ensures.err))
