use Rattle.std.proofs.Common.{◌≡◌, Err}
use Rattle.tko_commands.specs.Checks.{CheckFails}
use Rattle.tko_commands.proofs.FaultLineLemmas.{of_err, of_ok, told_as}
use Rattle.tko_commands.proofs.status.check_loaded.Goals as goal

pub returns-clause-check : goal.returns-clause-check
returns-clause-check g c =
    λ is. of_ok c.check-done.result (c.status_of_check.ensures.ok is) c.check-done.ensures.ok

pub returns-clause-fault : goal.returns-clause-fault
returns-clause-fault g c = λ is.
    let fails = CheckFails g.I.Inlet.failures g.O.Outlet.failures c.args.options.now (c.args.input.now, c.args.output.now) (c.check-done.new.input, c.check-done.new.output) in
    told_as g.F.Outlet.takes g.F.Outlet.failures (λ fault. c.check-done.result ≡ Err fault) fails
    c.args.faults.now c.status_of_check.new.faults
    (λ fault came. of_err fails c.check-done.result fault came c.check-done.ensures.err)
    (c.status_of_check.ensures.fault is)
