use Rattle.std.proofs.Common.{◌≡◌, None}
use Rattle.std.specs.Prelude.{length}
use Rattle.tko_mux.specs.Awaits.{IsAsking}
use Rattle.tko_session.specs.Clients.{Open}
use Rattle.tko_client.specs.Answerings.{IsAnsweringReady, MayCallClient, awaited_by_client}
use Rattle.tko_client.specs.Answerings.{client_at}
use Rattle.tko_client.specs.Steps.{HasStayed, client_ghosts}
use Rattle.tko_client.proofs.GoingLemmas.{HasGoneWith}
use Rattle.tko_client.proofs.going.go_while.Given as goal

abbrev pub invariant-loop-left : goal.invariant-loop-left
invariant-loop-left g l = record {
  gone : HasGoneWith (client_ghosts {C = g.row.C.Denot} g.H.Health g.T.Trails) l.left
      (client_at Open l.initial.it, l.initial.parts) (client_at Open l.it, l.parts);
  asks : IsAsking None (awaited_by_client l.initial.it) (awaited_by_client l.it);
  stays : HasStayed g.H.Health.servers l.initial.parts l.parts;
  servers : g.H.Health.servers l.parts.backend.health ≡ length l.parts.config.addresses;
  ready : IsAnsweringReady l.parts.config l.it;
  may : MayCallClient l.it;
}

abbrev pub decreases-loop-left : goal.decreases-loop-left
decreases-loop-left g l = l.left
