use Rattle.std.proofs.Common.{◌∙◌, subst, sym}
use Rattle.tko_keys.specs.KeysDriven.{AreUnderWay}
use Rattle.tko_client.specs.Staying.{stayed_on}
use Rattle.tko_client.specs.Steps.{client_ghosts}
use Rattle.tko_client.proofs.GoingLemmas.{servers_on}
use Rattle.tko_client.proofs.TakenOnLemmas.{acted_on, all_taken_on, less_left}
use Rattle.tko_client.proofs.keys.go_on_all.Goals as goal

pub loop-alloc-preserved : goal.loop-alloc-preserved
loop-alloc-preserved g c =
    let was = c.loop-alloc.invariant in
    let on = c.go_on_key-told.ensures.on in
    let stays = c.go_on_key-told.ensures.stays in record {
      acted = acted_on (client_ghosts {C = g.row.C.Denot} g.H.Health g.T.Trails) was.stays.config
          was.acted on;
      sends = on.sends ∙ was.sends;
      ready = subst (λ config. AreUnderWay config c.go_on_key-told.new.keys)
          (sym stays.config) on.ready;
      servers = servers_on stays was.servers;
      stays = stayed_on was.stays stays;
    }

pub loop-alloc-smaller : goal.loop-alloc-smaller
loop-alloc-smaller g c =
    less_left (client_ghosts {C = g.row.C.Denot} g.H.Health g.T.Trails)
    (c.loop-alloc.keys, c.loop-alloc.parts)
    (c.go_on_key-told.new.keys, c.go_on_key-told.new.parts) c.go_on_key-told.ensures.on

pub returns-clause-gone : goal.returns-clause-gone
returns-clause-gone g c =
    let was = c.loop-alloc.invariant in
    all_taken_on (client_ghosts {C = g.row.C.Denot} g.H.Health g.T.Trails)
    (c.args.keys.now, c.args.parts.now)
    (c.loop-alloc.keys, c.loop-alloc.parts) c.may_go_on.result was.stays.config was.acted
    was.sends was.ready c.may_go_on.ensures c.loop-alloc-test.false
