use Rattle.std.proofs.Common.{◌≡◌, ◌+◌, length}
use Rattle.tko_roster.specs.Rosters.{AreReady}
use Rattle.tko_mux.specs.Linking.{AreLinked}
use Rattle.tko_port.specs.Lives.{IsGuestReady}
use Rattle.tko_worker.specs.Acts.{HaveActed}
use Rattle.tko_worker.specs.Numbers.{IsTurnTaken}
use Rattle.tko_worker.specs.Workers.{NobodyForgotten}
use Rattle.tko_worker.proofs.worker.Worker.serve_touched.Given as goal

abbrev pub invariant-loop : goal.invariant-loop
invariant-loop g l = record {
  ready : AreReady (λ shared client. IsGuestReady g.T.Talking.ready g.L.Port.port shared.parts
      client.session) l.self-inside.mux.roster;
  linked : AreLinked (λ guest. g.T.Talking.awaited guest.talk) l.self-inside.mux.roster.slots
      l.self-inside.mux.lines;
  nobody : NobodyForgotten (g.T.Talking.awaited, g.T.Talking.talk, g.L.Port.port)
      l.self-inside.mux.roster.slots l.self-inside.touched l.self-inside.spent;
  left : length l.self-inside.touched + l.counter ≡ l.end;
  later : IsTurnTaken 0 l.initial.self-inside.spent l.self-inside.spent;
  acted : HaveActed (g.T.Talking.awaited, g.T.Talking.talk, g.L.Port.port)
      (l.initial.self-inside.mux.roster, l.initial.self-inside.ends)
      (l.self-inside.mux.roster, l.self-inside.ends);
}
