use Rattle.std.proofs.Common.{refl, sym, subst, None}
use Rattle.std.specs.Option.{option_map}
use Rattle.tko_port.specs.Wires.{IsKeptUnless}
use Rattle.tko_port.proofs.wire.receive.Goals as goal

pub returns-in-Ok-clause-come : goal.returns-in-Ok-clause-come
returns-in-Ok-clause-come g c = record {
  done = c.got.result;
  on = c.got.ensures.got.on;
  socket = subst (λ r. IsKeptUnless r (option_map g.L.Port.port c.args.socket.now)
      (option_map g.L.Port.port c.args.socket.now)) (sym c.in-Ok.is) refl;
}

pub returns-in-Err-clause-come : goal.returns-in-Err-clause-come
returns-in-Err-clause-come g c = record {
  done = c.got.result;
  on = c.got.ensures.got.on;
  socket = subst (λ r. IsKeptUnless r (option_map g.L.Port.port c.args.socket.now) None)
      (sym c.in-Err.is) refl;
}
