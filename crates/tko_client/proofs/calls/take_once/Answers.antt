use Rattle.tko_client.specs.Steps.{client_ghosts}
use Rattle.tko_client.proofs.CallLemmas.{awaiting_at, out_at, took}
use Rattle.tko_client.proofs.LeavingLemmas.{stands_on, took_leaves}
use Rattle.tko_client.proofs.CallLemmas.{took_lost, took_unrecorded}
use Rattle.tko_client.proofs.ReadsLemmas.{took_reads}
use Rattle.tko_route.specs.Calls.{Told}
use Rattle.std.proofs.Common.{map}
use Rattle.tko_client.proofs.calls.take_once.Goals as goal

pub observe-requires : goal.observe-requires
observe-requires g c =
    let out = awaiting_at c.args.session.now.work c.requires.ready.awaiting in
    let on = c.in-Ok.ensures.ok in
    let sent = out_at c.args.parts.now.config c.args.session.now out.0 out.1
    c.requires.ready.ready in
    record {
      began = (took_leaves c.args.parts.now.config c.args.session.now c.in-Ok.step
          c.answered.new.self out.0 c.args.outcome (map Told on.items) sent (on.is out.0 out.1)).1;
    }

pub returns-in-Ok-clause-ok : goal.returns-in-Ok-clause-ok
returns-in-Ok-clause-ok g c =
    let out = awaiting_at c.args.session.now.work c.requires.ready.awaiting in
    let on = c.in-Ok.ensures.ok in
    let told = c.observe.ensures in
    took (client_ghosts {C = g.row.C.Denot} g.H.Health g.T.Trails) c.args.session.now
    c.answered.new.self c.observe.new.session c.args.parts.now c.observe.new.parts
    c.answered.new.health on.items c.in-Ok.step c.args.outcome out.0 c.observe.result out.1
    on.is on.gains told.went told.ok told.same

pub returns-in-Ok-clause-err : goal.returns-in-Ok-clause-err
returns-in-Ok-clause-err g c =
    let out = awaiting_at c.args.session.now.work c.requires.ready.awaiting in
    let on = c.in-Ok.ensures.ok in
    took_unrecorded (client_ghosts {C = g.row.C.Denot} g.H.Health g.T.Trails) c.args.session.now
    c.answered.new.self c.observe.new.session c.args.parts.now c.observe.new.parts
    c.answered.new.health on.items c.in-Ok.step c.args.outcome out.0 c.observe.result out.1
    on.is on.gains c.observe.ensures.err

pub returns-in-Err-clause-err : goal.returns-in-Err-clause-err
returns-in-Err-clause-err g c =
    let out = awaiting_at c.args.session.now.work c.requires.ready.awaiting in
    let on = c.in-Err.ensures.err in
    took_lost (client_ghosts {C = g.row.C.Denot} g.H.Health g.T.Trails) c.args.session.now
    c.answered.new.self c.args.parts.now c.observe_drop.new.parts c.answered.new.health on.items
    c.in-Err.dropped c.args.outcome out.0 out.1 on.is on.gains c.observe_drop.ensures

pub returns-in-Ok-clause-stands : goal.returns-in-Ok-clause-stands
returns-in-Ok-clause-stands g c =
    let out = awaiting_at c.args.session.now.work c.requires.ready.awaiting in
    let on = c.in-Ok.ensures.ok in
    let told = c.observe.ensures in
    let sent = out_at c.args.parts.now.config c.args.session.now out.0 out.1
    c.requires.ready.ready in
    let calls = map Told on.items in
    stands_on c.in-Ok.step c.answered.new.self c.observe.new.session c.observe.result
    (took_leaves c.args.parts.now.config c.args.session.now c.in-Ok.step c.answered.new.self out.0
    c.args.outcome calls sent (on.is out.0 out.1))
    (took_reads c.args.parts.now.config out.0 c.args.outcome c.args.session.now calls c.in-Ok.step
    c.answered.new.self (on.is out.0 out.1)) told.went told.same
