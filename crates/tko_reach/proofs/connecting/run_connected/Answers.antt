use Rattle.std.proofs.Common.{refl}
use Rattle.tko_commands.proofs.FaultLineLemmas.{told_as}
use Rattle.tko_commands.proofs.ReasonLemmas.{told_with}
use Rattle.tko_reach.specs.Connecting.{HasNotAskedServers, NotConnected, NotRead, ServersFail}
use Rattle.tko_reach.proofs.connecting.run_connected.Goals as goal

pub returns-in-Ok-clause-whole : goal.returns-in-Ok-clause-whole
returns-in-Ok-clause-whole g c = λ is. record {
  loaded = c.in-Ok.options;
  text = c.in-Ok.ensures.ok;
  done = c.connect_loaded.ensures.whole is;
}

pub returns-in-Ok-clause-part : goal.returns-in-Ok-clause-part
returns-in-Ok-clause-part g c = λ is. record {
  loaded = c.in-Ok.options;
  text = c.in-Ok.ensures.ok;
  done = c.connect_loaded.ensures.part is;
}

pub returns-in-Ok-clause-fault : goal.returns-in-Ok-clause-fault
returns-in-Ok-clause-fault g c = λ is.
    rw c.in-Ok.ensures.kept at
    (told_as g.F.Outlet.takes g.F.Outlet.failures
    (ServersFail g.I.Inlet _ g.O.Outlet c.in-Ok.options (c.args.input.now, c.args.output.now) (c.connect_loaded.new.input, c.connect_loaded.new.output))
    (HasNotAskedServers g.I.Inlet _ g.O.Outlet c.args.options (c.args.input.now, c.args.output.now) (c.connect_loaded.new.input, c.connect_loaded.new.output))
    c.loaded_check.new.faults c.connect_loaded.new.faults
    (λ fault fails. NotConnected c.in-Ok.options c.in-Ok.ensures.ok fails)
    (c.connect_loaded.ensures.fault is))

pub returns-in-Err-clause-fault : goal.returns-in-Err-clause-fault
returns-in-Err-clause-fault g c = λ is.
    told_with g.F.Outlet.takes g.F.Outlet.failures
    (HasNotAskedServers g.I.Inlet _ g.O.Outlet c.args.options (c.args.input.now, c.args.output.now) (c.args.input.now, c.args.output.now))
    c.in-Err.fault c.args.faults.now c.loaded_check.new.faults
    c.fail.new.faults (NotRead c.in-Err.ensures.err refl) c.in-Err.ensures.told c.fail.ensures.fault
