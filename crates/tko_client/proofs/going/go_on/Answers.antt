use Rattle.std.proofs.Common.{subst, sym}
use Rattle.tko_client.specs.Calls.{IsHalted}
use Rattle.tko_client.specs.Steps.{client_ghosts}
use Rattle.tko_client.proofs.going.go_on.Goals as goal

pub returns : goal.returns
returns g c =
    let halt = c.go_while-halt in
    subst (λ it. IsHalted (client_ghosts {C = g.row.C.Denot} g.H.Health g.T.Trails)
    g.H.Health.servers halt.result.course halt.result.asked (c.args.it.now, c.args.parts.now)
    (it, halt.new.parts)) (sym c.note_sent.ensures) halt.ensures
