use Rattle.tko_loop.proofs.LeaveLemmas.{noted_leaves}
use Rattle.tko_loop.proofs.walk.end.Goals as goal

pub returns-clause-leaves : goal.returns-clause-leaves
returns-clause-leaves g c =
    noted_leaves (g.T.Talking.awaited, g.T.Talking.talk, g.L.Port.port) c.args.why
    c.args.clients.now c.gone.new.self c.args.number c.gone.ensures.noted
