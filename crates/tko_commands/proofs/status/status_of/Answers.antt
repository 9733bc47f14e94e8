use Rattle.std.proofs.Common.{◌≡◌, Err}
use Rattle.tko_commands.proofs.FaultLineLemmas.{told_alone}
use Rattle.tko_commands.proofs.status.status_of.Goals as goal

pub returns-in-Err-clause-fault : goal.returns-in-Err-clause-fault
returns-in-Err-clause-fault g c = λ is.
    told_alone g.F.Outlet.takes g.F.Outlet.failures (λ fault. c.args.done ≡ Err fault) c.in-Err.fault
    c.args.faults.now c.fail.new.faults c.in-Err.is c.fail.ensures.fault
