use Rattle.tko_reply.specs.Ghosts.{parts_ghosts}
use Rattle.tko_session.proofs.ManyLemmas.{many_served}
use Rattle.tko_session.proofs.clients.served.Goals as goal

pub returns : goal.returns
returns g c = many_served (parts_ghosts g.H.Health g.L.Links g.T.Trails g.C.Clock)
