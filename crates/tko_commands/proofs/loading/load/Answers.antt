use Rattle.tko_commands.proofs.ReasonLemmas.{file_reason}
use Rattle.tko_commands.proofs.loading.load.Goals as goal

pub returns-in-Err-2-clause-told : goal.returns-in-Err-2-clause-told
returns-in-Err-2-clause-told g c = file_reason g.F.Outlet.takes g.F.Outlet.failures _ _ _ c.write_reason.ensures
