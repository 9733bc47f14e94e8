use Rattle.tko_client.specs.Steps.{client_ghosts}
use Rattle.tko_client.proofs.CallLemmas.{lost, stepped, unrecorded}
use Rattle.tko_client.proofs.LeavingLemmas.{stands_on, went_leaves}
use Rattle.tko_client.proofs.ReadsLemmas.{went_reads}
use Rattle.tko_route.specs.Calls.{Told}
use Rattle.std.proofs.Common.{map}
use Rattle.tko_client.proofs.calls.go_once.Goals as goal

pub returns-in-Ok-clause-ok : goal.returns-in-Ok-clause-ok
returns-in-Ok-clause-ok g c =
    let on = c.in-Ok.ensures.ok in
    let told = c.observe.ensures in
    stepped (client_ghosts {C = g.row.C.Denot} g.H.Health g.T.Trails) c.args.session.now
    c.next.new.self c.observe.new.session c.args.parts.now c.observe.new.parts c.next.new.health
    on.items c.in-Ok.step c.observe.result on.is on.gains told.went told.ok told.same

pub returns-in-Ok-clause-err : goal.returns-in-Ok-clause-err
returns-in-Ok-clause-err g c =
    let on = c.in-Ok.ensures.ok in
    unrecorded (client_ghosts {C = g.row.C.Denot} g.H.Health g.T.Trails) c.args.session.now
    c.next.new.self c.observe.new.session c.args.parts.now c.observe.new.parts c.next.new.health
    on.items c.in-Ok.step c.observe.result on.is on.gains c.observe.ensures.err

pub returns-in-Err-clause-err : goal.returns-in-Err-clause-err
returns-in-Err-clause-err g c =
    let on = c.in-Err.ensures.err in
    lost (client_ghosts {C = g.row.C.Denot} g.H.Health g.T.Trails) c.args.session.now
    c.next.new.self c.args.parts.now c.observe_drop.new.parts c.next.new.health on.items
    c.in-Err.dropped on.is on.gains c.observe_drop.ensures

pub returns-in-Ok-clause-stands : goal.returns-in-Ok-clause-stands
returns-in-Ok-clause-stands g c =
    let on = c.in-Ok.ensures.ok in
    let told = c.observe.ensures in
    let calls = map Told on.items in
    stands_on c.in-Ok.step c.next.new.self c.observe.new.session c.observe.result
    (went_leaves c.args.parts.now.config c.args.session.now c.in-Ok.step c.next.new.self calls
    on.is)
    (went_reads c.args.parts.now.config c.args.session.now calls c.in-Ok.step c.next.new.self on.is)
    told.went told.same
