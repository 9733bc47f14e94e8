use Rattle.std.proofs.Common.{◌≡◌, Err, refl}
use Rattle.tko_commands.specs.DryRuns.{DryFails}
use Rattle.tko_commands.specs.NotDone.{HasNotDried, NoDryFile, NotDried}
use Rattle.tko_commands.proofs.FaultLineLemmas.{of_err, of_ok, told_as}
use Rattle.tko_commands.proofs.ReasonLemmas.{told_with}
use Rattle.tko_commands.proofs.status.run_dry.Goals as goal

pub returns-in-Ok-clause-dry : goal.returns-in-Ok-clause-dry
returns-in-Ok-clause-dry g c = λ is. record {
  loaded = c.in-Ok.options;
  text = c.in-Ok.ensures.ok;
  dry = of_ok c.dry-done.result (c.status_over.ensures.ok is) c.dry-done.ensures.ok;
}

pub returns-in-Err-clause-fault : goal.returns-in-Err-clause-fault
returns-in-Err-clause-fault g c =
    λ is. told_with g.F.Outlet.takes g.F.Outlet.failures
    (HasNotDried g.I.Inlet g.O.Outlet c.args.options (c.args.input.now, c.args.output.now)
    (c.args.input.now, c.args.output.now)) c.in-Err.fault c.args.faults.now c.loaded_dry.new.faults
    c.fail.new.faults (NoDryFile c.in-Err.ensures.err refl) c.in-Err.ensures.told c.fail.ensures.fault

pub returns-in-Ok-clause-fault : goal.returns-in-Ok-clause-fault
returns-in-Ok-clause-fault g c = λ is.
    rw c.in-Ok.ensures.kept at
    (told_as g.F.Outlet.takes g.F.Outlet.failures (λ fault. c.dry-done.result ≡ Err fault)
    (HasNotDried g.I.Inlet g.O.Outlet c.args.options (c.args.input.now, c.args.output.now) (c.dry-done.new.input, c.dry-done.new.output)) c.loaded_dry.new.faults c.status_over.new.faults
    (λ fault came. NotDried c.in-Ok.options c.in-Ok.ensures.ok
    (of_err (DryFails g.I.Inlet g.O.Outlet c.in-Ok.options (c.args.input.now, c.args.output.now) (c.dry-done.new.input, c.dry-done.new.output)) c.dry-done.result fault came c.dry-done.ensures.err))
    (c.status_over.ensures.fault is))
