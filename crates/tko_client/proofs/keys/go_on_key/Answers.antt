use Rattle.std.proofs.Common.{map}
use Rattle.tko_route.specs.Calls.{Told}
use Rattle.tko_client.specs.Steps.{client_ghosts}
use Rattle.tko_client.proofs.TakenOnLemmas.{take_lost_call, took_call}
use Rattle.tko_client.proofs.UnderWayLemmas.{took_due}
use Rattle.tko_client.proofs.keys.go_on_key.Goals as goal

pub returns-in-Ok-clause-on : goal.returns-in-Ok-clause-on
returns-in-Ok-clause-on g c =
    let on = c.in-Ok.ensures.ok in
    took_call (client_ghosts {C = g.row.C.Denot} g.H.Health g.T.Trails) c.args.keys.now
    c.go_on.new.self c.observe_key.new.keys c.args.parts.now c.observe_key.new.parts
    c.go_on.new.health on.items
    c.in-Ok.step on.is c.go_on.ensures.ready on.gains c.observe_key.ensures.recorded

pub returns-in-Err-clause-on : goal.returns-in-Err-clause-on
returns-in-Err-clause-on g c =
    let on = c.in-Err.ensures.lost in
    take_lost_call (client_ghosts {C = g.row.C.Denot} g.H.Health g.T.Trails) c.args.keys.now
    c.go_on.new.self c.args.parts.now c.observe_loss.new.parts c.go_on.new.health on.items
    c.in-Err.dropped on.is c.go_on.ensures.ready on.gains c.observe_loss.ensures

pub observe_key-requires : goal.observe_key-requires
observe_key-requires g c =
    record {
      due = took_due c.args.parts.now.config c.args.keys.now c.go_on.new.self
          (map Told c.in-Ok.ensures.ok.items) c.in-Ok.step c.in-Ok.ensures.ok.is;
    }
