use Rattle.std.proofs.Common.{◌≡◌, List}
use Rattle.tko_model.specs.Records.{Gains}
use Rattle.tko_mux.specs.Muxes.{IsMuxInOrder}
use Rattle.tko_mux.specs.declared.mux.delivery.Done.{Done}
use Rattle.tko_port.specs.declared.guest.Turned.{Turned}
use Rattle.tko_port.specs.Lives.{IsGuestReady}
use Rattle.tko_worker.specs.Acts.{HaveActed}
use Rattle.tko_worker.specs.Workers.{AsksOn, OthersStay}
use Rattle.tko_worker.proofs.serving.is_spent.Given as goal

abbrev pub invariant-loop : goal.invariant-loop
invariant-loop g l = record {
  asked : (asks : List (Done Turned))
      × Gains (AsksOn (g.T.Talking.awaited, g.T.Talking.talk, g.L.Port.port)
      (λ guest. g.T.Talking.asks_for guest.talk) l.number l.due) l.initial.mux asks l.mux;
  ends : l.ends ≡ l.initial.ends;
  others : OthersStay l.number l.initial.mux.roster.slots l.mux.roster.slots;
  acted : HaveActed (g.T.Talking.awaited, g.T.Talking.talk, g.L.Port.port)
      (l.initial.mux.roster, l.initial.ends) (l.mux.roster, l.ends);
  order : IsMuxInOrder (λ shared client.
      IsGuestReady g.T.Talking.ready g.L.Port.port shared.parts client.session)
      (λ guest. g.T.Talking.awaited guest.talk) l.mux;
}
