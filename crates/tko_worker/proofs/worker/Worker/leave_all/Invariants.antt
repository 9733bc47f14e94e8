use Rattle.std.proofs.Common.{◌≡◌, None}
use Rattle.tko_worker.specs.Acts.{HasActed}
use Rattle.tko_worker.specs.Workers.{IsInOrder}
use Rattle.tko_worker.proofs.worker.Worker.leave_all.Given as goal

abbrev pub invariant-loop : goal.invariant-loop
invariant-loop g l = record {
  order : IsInOrder (g.T.Talking.awaited, g.T.Talking.talk, g.L.Port.port) g.T.Talking.ready l.self;
  gone : l.peer.socket ≡ None;
  acted : HasActed (g.T.Talking.awaited, g.T.Talking.talk, g.L.Port.port) l.initial.self l.self;
}
