use Rattle.std.proofs.Common.{rules, subst}
use Rattle.std.specs.Option.{option_map}
use Rattle.tko_port.specs.Wires.{HasRead}
use Rattle.tko_worker.specs.Workers.{WorkerState}
use Rattle.tko_worker.proofs.worker.Worker.read.Goals as goal

pub returns-clause-read : goal.returns-clause-read
returns-clause-read g c = record {
  read = record {
    after = option_map g.L.Port.port c.read_wire.new.socket;
    read = subst (λ (w : WorkerState _ _ _). HasRead c.args.server c.args.now w.mux.lines
        (option_map g.L.Port.port c.args.peer.now.socket) c.read_wire.new.mux.lines
        (option_map g.L.Port.port c.read_wire.new.socket)) c.self.view_is
        c.if-not-read_wire.ensures.read;
  };
  none = tt;
  clients = search rules;
}

pub returns-then-not-read_wire-clause-read : goal.returns-then-not-read_wire-clause-read
returns-then-not-read_wire-clause-read g c = record {
  read = tt;
  none = record {
    kept = search rules;
    cannot = c.if-not-read_wire.ensures.none.cannot;
  };
  clients = search rules;
}
