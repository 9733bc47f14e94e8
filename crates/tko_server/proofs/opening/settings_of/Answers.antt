-- A fault of the settings is that of their check.
use Rattle.std.proofs.Common.{◌∙◌, ap, refl, Err}
use Rattle.std.proofs.lemmas.Result.{err_from_is_err_and}
use Rattle.tko_server.proofs.RunLemmas.{all_well, of_servers, out_of_memory, refused}
use Rattle.tko_server.proofs.opening.settings_of.Goals as goal

pub returns-in_err-check_with_servers-clause-err : goal.returns-in_err-check_with_servers-clause-err
returns-in_err-check_with_servers-clause-err c =
    let p = err_from_is_err_and c.from_residual.result c.from_residual.ensures.1 in
    of_servers _ c.args.options.now.settings _ _ c.servers-servers.ensures
    (refused _ _ _ c.in_err-check_with_servers.field-0.0 refl (p.1 ∙ ap Err p.2) c.in_err-check_with_servers.ensures.err)

pub returns-in_err-settings-clause-err : goal.returns-in_err-settings-clause-err
returns-in_err-settings-clause-err c =
    let p = err_from_is_err_and c.from_residual-in_err-settings.result c.from_residual-in_err-settings.ensures.1 in
    of_servers _ c.args.options.now.settings _ _ c.servers-servers.ensures
    (out_of_memory _ _ _ _ refl (p.1 ∙ ap Err p.2) c.in_ok-check_with_servers.ensures.err)

pub returns-clause-err : goal.returns-clause-err
returns-clause-err c =
    of_servers _ c.args.options.now.settings _ _ c.servers-servers.ensures
    (all_well _ _ _ _ _ refl refl c.in_ok-check_with_servers.ensures.err)
