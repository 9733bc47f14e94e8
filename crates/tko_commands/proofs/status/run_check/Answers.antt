use Rattle.std.proofs.Common.{refl}
use Rattle.tko_commands.specs.Checks.{CheckFails}
use Rattle.tko_commands.specs.NotDone.{HasNotChecked, NoCheckFile, NotChecked}
use Rattle.tko_commands.proofs.FaultLineLemmas.{told_as}
use Rattle.tko_commands.proofs.ReasonLemmas.{told_with}
use Rattle.tko_commands.proofs.status.run_check.Goals as goal

pub returns-in-Ok-clause-check : goal.returns-in-Ok-clause-check
returns-in-Ok-clause-check g c = λ is. record {
  loaded = c.in-Ok.options;
  text = c.in-Ok.ensures.ok;
  checked = c.check_loaded.ensures.check is;
}

pub returns-in-Err-clause-fault : goal.returns-in-Err-clause-fault
returns-in-Err-clause-fault g c =
    λ is. told_with g.F.Outlet.takes g.F.Outlet.failures
    (HasNotChecked g.I.Inlet.failures g.O.Outlet.failures c.args.options
    (c.args.input.now, c.args.output.now) (c.args.input.now, c.args.output.now))
    c.in-Err.fault c.args.faults.now c.loaded_check.new.faults
    c.fail.new.faults (NoCheckFile c.in-Err.ensures.err refl) c.in-Err.ensures.told c.fail.ensures.fault

pub returns-in-Ok-clause-fault : goal.returns-in-Ok-clause-fault
returns-in-Ok-clause-fault g c = λ is.
    rw c.in-Ok.ensures.kept at
    (told_as g.F.Outlet.takes g.F.Outlet.failures
    (CheckFails g.I.Inlet.failures g.O.Outlet.failures c.in-Ok.options (c.args.input.now, c.args.output.now) (c.check_loaded.new.input, c.check_loaded.new.output))
    (HasNotChecked g.I.Inlet.failures g.O.Outlet.failures c.args.options (c.args.input.now, c.args.output.now) (c.check_loaded.new.input, c.check_loaded.new.output))
    c.loaded_check.new.faults c.check_loaded.new.faults
    (λ fault fails. NotChecked c.in-Ok.options c.in-Ok.ensures.ok fails)
    (c.check_loaded.ensures.fault is))
