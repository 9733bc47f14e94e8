use Rattle.std.specs.Option.{option_map}
use Rattle.tko_mux.specs.Muxes.{line_at}
use Rattle.tko_port.specs.Wires.{IsHeld}
use Rattle.tko_worker.specs.Acts.{HasActed}
use Rattle.tko_worker.specs.Workers.{IsInOrder}
use Rattle.tko_worker.proofs.worker.Worker.give_up_more.Given as goal

abbrev pub invariant-loop : goal.invariant-loop
invariant-loop g l = record {
  order : IsInOrder (g.T.Talking.awaited, g.T.Talking.talk, g.L.Port.port) g.T.Talking.ready l.self;
  held : IsHeld (option_map g.L.Port.port l.peer.socket) (line_at l.self.mux l.server);
  acted : HasActed (g.T.Talking.awaited, g.T.Talking.talk, g.L.Port.port) l.initial.self l.self;
}
