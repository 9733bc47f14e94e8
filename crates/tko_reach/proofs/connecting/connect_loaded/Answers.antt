use Rattle.std.proofs.Common.{◌≡◌, rules}
use Rattle.tko_commands.specs.Checks.{CheckFails}
use Rattle.tko_commands.proofs.FaultLineLemmas.{told_alone, told_as}
use Rattle.tko_reach.specs.Connecting.{NotChecked, NotReached, ServersFail}
use Rattle.tko_reach.proofs.connecting.connect_loaded.Goals as goal

pub returns-then-status-ne-DONE-clause-fault : goal.returns-then-status-ne-DONE-clause-fault
returns-then-status-ne-DONE-clause-fault g c = λ is.
    told_as g.F.Outlet.takes g.F.Outlet.failures
    (CheckFails g.I.Inlet.failures g.O.Outlet.failures c.args.options.now (c.args.input.now, c.args.output.now) (c.check_loaded-status.new.input, c.check_loaded-status.new.output))
    (ServersFail g.I.Inlet g.R.File.Read.remaining g.O.Outlet c.args.options.now (c.args.input.now, c.args.output.now) (c.check_loaded-status.new.input, c.check_loaded-status.new.output))
    c.args.faults.now c.check_loaded-status.new.faults (λ reason fails. NotChecked fails)
    (c.check_loaded-status.ensures.fault is)

pub returns-in-Err-clause-fault : goal.returns-in-Err-clause-fault
returns-in-Err-clause-fault g c = λ is.
    let checked = c.check_loaded-status in
    let done : checked.result ≡ 0 = search rules in
    rw (checked.ensures.done done) at
    (told_alone g.F.Outlet.takes g.F.Outlet.failures
    (ServersFail g.I.Inlet g.R.File.Read.remaining g.O.Outlet c.args.options.now (c.args.input.now, c.args.output.now) (checked.new.input, c.reach.new.output))
    c.in-Err.fault checked.new.faults c.fail.new.faults
    (NotReached checked.new.output (checked.ensures.check done) c.in-Err.ensures.err)
    c.fail.ensures.fault)
