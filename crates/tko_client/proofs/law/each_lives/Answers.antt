use Rattle.tko_client.specs.Steps.{client_ghosts}
use Rattle.tko_client.proofs.LawLemmas.{has_life}
use Rattle.tko_client.proofs.law.each_lives.Goals as goal

pub returns : goal.returns
returns g c config plan items now =
    has_life (client_ghosts {C = g.row.C.Denot} g.H.Health g.T.Trails) config plan items now
