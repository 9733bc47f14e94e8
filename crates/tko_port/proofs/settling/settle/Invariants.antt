use Rattle.std.proofs.Common.{◌<◌, ◌*◌, None, length}
use Rattle.tko_mux.specs.Awaits.{IsAsking}
use Rattle.tko_port.specs.Lives.{ReadyAt}
use Rattle.tko_port.specs.Shares.{IsServedWithin}
use Rattle.tko_port.proofs.settling.settle.Given as goal

abbrev pub invariant-loop : goal.invariant-loop
invariant-loop g l = record {
  ready : ReadyAt g.T.Talking.ready l.parts (g.L.Port.port l.port) l.talk;
  asks : IsAsking None (g.T.Talking.awaited l.initial.talk) (g.T.Talking.awaited l.talk);
  room : 0 < length l.buffer;
  served : IsServedWithin g.T.Talking.does l.counter (l.counter * length l.initial.buffer)
      (l.initial.talk, l.initial.parts) (g.L.Port.port l.initial.port) (l.talk, l.parts)
      (g.L.Port.port l.port);
  stays : g.T.Talking.stays l.initial.parts l.parts;
}
