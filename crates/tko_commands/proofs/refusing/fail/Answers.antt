use Rattle.tko_commands.proofs.FaultLineLemmas.{is_fault_written}
use Rattle.tko_commands.proofs.refusing.fail.Goals as goal

pub returns-clause-fault : goal.returns-clause-fault
returns-clause-fault g c =
    is_fault_written g.F.Outlet.takes g.F.Outlet.failures c.args.fault c.args.faults.now c.write_fault.new.faults
    c.write_fault.result c.write_fault.ensures.ok c.write_fault.ensures.err
