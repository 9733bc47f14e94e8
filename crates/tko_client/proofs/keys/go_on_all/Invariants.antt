use Rattle.std.proofs.Common.{◌≡◌, length}
use Rattle.tko_keys.specs.KeysDriven.{AreUnderWay}
use Rattle.tko_client.specs.Keys.{HaveActedForKeys}
use Rattle.tko_client.specs.Steps.{HasStayed, client_ghosts}
use Rattle.tko_client.proofs.keys.go_on_all.Given as goal

abbrev pub invariant-loop-alloc : goal.invariant-loop-alloc
invariant-loop-alloc g l = record {
  acted : HaveActedForKeys
      (client_ghosts {C = g.row.C.Denot} g.H.Health g.T.Trails) l.initial.parts.config
      (l.initial.keys, l.initial.parts) (l.keys, l.parts);
  sends : l.keys.sends ≡ l.initial.keys.sends;
  ready : AreUnderWay l.parts.config l.keys;
  servers : g.H.Health.servers l.parts.backend.health ≡ length l.parts.config.addresses;
  stays : HasStayed g.H.Health.servers l.initial.parts l.parts;
}

abbrev pub decreases-loop-alloc : goal.decreases-loop-alloc
decreases-loop-alloc g l = length l.keys.came.places
