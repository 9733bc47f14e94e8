use Rattle.std.proofs.Common.{map}
use Rattle.tko_route.specs.Calls.{Told}
use Rattle.tko_client.specs.Steps.{client_ghosts}
use Rattle.tko_client.proofs.UnderWayLemmas.{began_due}
use Rattle.tko_client.proofs.KeysLemmas.{begin_lost_call, begun_call}
use Rattle.tko_client.proofs.keys.begin_key.Goals as goal

pub returns-in-Ok-clause-call : goal.returns-in-Ok-clause-call
returns-in-Ok-clause-call g c =
    let on = c.in-Ok.ensures.ok in
    begun_call (client_ghosts {C = g.row.C.Denot} g.H.Health g.T.Trails) c.args.keys.now
    c.begin.new.self c.observe_key.new.keys c.args.parts.now c.observe_key.new.parts
    c.begin.new.health on.items
    c.in-Ok.step c.requires.ready on.is c.begin.ensures.ready on.gains
    c.observe_key.ensures.recorded

pub returns-in-Err-clause-call : goal.returns-in-Err-clause-call
returns-in-Err-clause-call g c =
    let on = c.in-Err.ensures.lost in
    begin_lost_call (client_ghosts {C = g.row.C.Denot} g.H.Health g.T.Trails) c.args.keys.now
    c.begin.new.self c.args.parts.now c.observe_loss.new.parts c.begin.new.health on.items
    c.in-Err.dropped c.requires.ready on.is c.begin.ensures.ready on.gains c.observe_loss.ensures

pub observe_key-requires : goal.observe_key-requires
observe_key-requires g c =
    record {
      due = began_due c.args.parts.now.config c.args.keys.now c.begin.new.self
          (map Told c.in-Ok.ensures.ok.items) c.in-Ok.step c.in-Ok.ensures.ok.is;
    }
