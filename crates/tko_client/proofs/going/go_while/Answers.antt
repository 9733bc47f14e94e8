use Rattle.std.proofs.Common.{None, arith, subst, sym}
use Rattle.tko_session.specs.Clients.{Open}
use Rattle.tko_client.specs.Answerings.{awaited_by_client, client_at}
use Rattle.tko_client.specs.Calls.{IsCalled}
use Rattle.tko_client.specs.Staying.{stayed_on}
use Rattle.tko_client.specs.Steps.{client_ghosts}
use Rattle.tko_client.proofs.AskLemmas.{asking_on}
use Rattle.tko_client.proofs.GoingLemmas.{HasGoneWith, called_on, halted_after, servers_on}
use Rattle.tko_client.proofs.going.go_while.Goals as goal

pub returns-in_default : goal.returns-in_default
returns-in_default g c =
    let ghosts = client_ghosts {C = g.row.C.Denot} g.H.Health g.T.Trails in
    let was = c.loop-left.invariant in
    let then = c.after.ensures in
    halted_after ghosts g.H.Health.servers c.call_once.result c.after.result.course
    c.after.result.asked c.loop-left.left (c.args.it.now, c.args.parts.now)
    (c.loop-left.it, c.loop-left.parts) (c.call_once.new.it, c.call_once.new.parts)
    then.phase then.asked then.short then.stands then.reading then.replies
    (omega (arith, c.loop-left-test.true)) was.gone was.asks was.stays c.call_once.ensures

pub loop-left-preserved : goal.loop-left-preserved
loop-left-preserved g c =
    let ghosts = client_ghosts {C = g.row.C.Denot} g.H.Health g.T.Trails in
    let servers = g.H.Health.servers in
    let was = c.loop-left.invariant in
    let call = subst (λ w. IsCalled ghosts servers w (c.loop-left.it, c.loop-left.parts)
    (c.call_once.new.it, c.call_once.new.parts)) c.in-On.is c.call_once.ensures in
    let gone = called_on ghosts servers c.loop-left.left c.call_cost.result c.held-held.result
    c.held.result (c.args.it.now, c.args.parts.now) (c.loop-left.it, c.loop-left.parts)
    (c.call_once.new.it, c.call_once.new.parts) (omega (arith, c.loop-left-test.true))
    c.held-held.ensures c.held.ensures c.call_cost.ensures was.gone was.stays call in record {
      gone = subst (λ n. HasGoneWith ghosts n (client_at Open c.args.it.now, c.args.parts.now)
          (client_at Open c.call_once.new.it, c.call_once.new.parts))
          (sym c.saturating_sub-left.ensures) gone;
      asks = asking_on None (awaited_by_client c.args.it.now) (awaited_by_client c.loop-left.it)
          (awaited_by_client c.call_once.new.it) was.asks call.asks;
      stays = stayed_on was.stays call.left.stays;
      servers = servers_on call.left.stays was.servers;
      ready = call.left.ready;
      may = call.left.stands;
    }
