use Rattle.std.proofs.Common.{refl}
use Rattle.tko_cli.proofs.EndingLemmas.{fault_as}
use Rattle.tko_cli.specs.Endings.{AfterReason, HasNotServed, HasNotesFor, NoServerFile, NotServed}
use Rattle.tko_cli.specs.Notices.{HasServerNotes}
use Rattle.tko_cli.specs.Serving.{ServeFails}
use Rattle.tko_commands.proofs.ReasonLemmas.{told_with}
use Rattle.tko_cli.proofs.program.run_server.Goals as goal

pub returns-in-Err-clause-fault : goal.returns-in-Err-clause-fault
returns-in-Err-clause-fault g c =
    λ is. AfterReason (told_with g.F.Outlet.takes g.F.Outlet.failures
    (HasNotServed g.O.Outlet.takes g.O.Outlet.failures c.args.options c.args.output.now c.args.output.now)
    c.in-Err.fault c.args.faults.now c.loaded_server.new.faults c.fail.new.faults
    (NoServerFile c.in-Err.ensures.err refl) c.in-Err.ensures.told c.fail.ensures.fault)

pub returns-in-Ok-clause-done : goal.returns-in-Ok-clause-done
returns-in-Ok-clause-done g c = λ is. record {
  loaded = c.in-Ok.options;
  text = c.in-Ok.ensures.ok;
  served = c.serve_loaded.ensures.done is;
  noted = rw c.in-Ok.ensures.kept at c.serve_loaded.ensures.noted is;
}

pub returns-in-Ok-clause-fault : goal.returns-in-Ok-clause-fault
returns-in-Ok-clause-fault g c = λ is.
    let from = c.args.output.now in
    let to = c.serve_loaded.new.output in
    rw c.in-Ok.ensures.kept at
    (fault_as g.O.Outlet.takes g.O.Outlet.failures g.F.Outlet
    (HasServerNotes g.F.Outlet.takes g.F.Outlet.failures c.in-Ok.options)
    (HasNotesFor g.F.Outlet c.args.options)
    (ServeFails g.O.Outlet.takes g.O.Outlet.failures c.in-Ok.options from to)
    (HasNotServed g.O.Outlet.takes g.O.Outlet.failures c.args.options from to) from to
    c.loaded_server.new.faults c.serve_loaded.new.faults
    (λ middle noted. record { loaded = c.in-Ok.options; text = c.in-Ok.ensures.ok; noted = noted })
    (λ fault fails. NotServed c.in-Ok.options c.in-Ok.ensures.ok fails)
    (c.serve_loaded.ensures.fault is))
