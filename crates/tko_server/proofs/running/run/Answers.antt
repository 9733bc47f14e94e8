use Rattle.std.proofs.Common.{refl}
use Rattle.tko_server.proofs.RunLemmas.{done_well, passed_on}
use Rattle.tko_server.proofs.running.run.Goals as goal

pub returns-in-Ok : goal.returns-in-Ok
returns-in-Ok g c =
    record { settings = done_well _ _ _ _ _ c.in-Ok.is refl c.run_to_end.ensures.settings }

pub returns-in-Err : goal.returns-in-Err
returns-in-Err g c =
    record { settings = passed_on _ _ _ _ c.in-Err.is refl c.run_to_end.ensures.settings }
