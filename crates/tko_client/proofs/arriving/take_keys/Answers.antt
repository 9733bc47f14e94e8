use Rattle.std.proofs.Common.{◌∙◌, subst, sym}
use Rattle.tko_keys.specs.KeysDriven.{AreUnderWay}
use Rattle.tko_client.specs.Staying.{stayed_on}
use Rattle.tko_client.proofs.ArrivingLemmas.{arrived_come, counts_stay, told_stays}
use Rattle.tko_client.proofs.GoingLemmas.{servers_on}
use Rattle.tko_client.proofs.arriving.take_keys.Goals as goal

pub arrive-requires : goal.arrive-requires
arrive-requires g c =
    let stays = counts_stay {servers =
    g.H.Health.servers} c.args.server c.args.keys.now c.args.parts.now c.count_keys.new.parts
    c.requires.ready.awaits c.count_keys.ensures in record {
      ready = (
        c.args.parts.now.config,
        c.requires.ready.ready.under_way,
        stays.health ∙ c.requires.servers,
      );
      awaited = c.requires.ready.awaits;
      settled = c.requires.ready.ready.settled;
    }

pub go_on_all-requires : goal.go_on_all-requires
go_on_all-requires g c =
    let stays = counts_stay {servers =
    g.H.Health.servers} c.args.server c.args.keys.now c.args.parts.now c.count_keys.new.parts
    c.requires.ready.awaits c.count_keys.ensures in record {
      servers = c.arrive.ensures.servers ∙ servers_on stays c.requires.servers;
      ready = c.arrive.ensures.ready c.count_keys.new.parts.config
          (subst (λ config. AreUnderWay config c.args.keys.now)
          (sym stays.config) c.requires.ready.ready.under_way);
    }

pub returns-clause-taken : goal.returns-clause-taken
returns-clause-taken g c =
    let told = c.arrive.ensures.arrived in
    arrived_come g.H.Health g.T.Trails c.args.server c.args.outcome c.args.keys.now
    c.arrive.new.self c.go_on_all.new.keys c.args.parts.now c.count_keys.new.parts
    c.go_on_all.new.parts c.arrive.new.health told.items c.requires.ready.ready c.requires.sent
    c.count_keys.ensures told.is told.gains c.go_on_all.ensures.gone

pub returns-clause-stays : goal.returns-clause-stays
returns-clause-stays g c =
    stayed_on (counts_stay {servers =
    g.H.Health.servers} c.args.server c.args.keys.now c.args.parts.now c.count_keys.new.parts
    c.requires.ready.awaits c.count_keys.ensures)
    (stayed_on (told_stays {servers =
    g.H.Health.servers} c.count_keys.new.parts c.arrive.new.health c.arrive.ensures.servers)
    c.go_on_all.ensures.stays)
