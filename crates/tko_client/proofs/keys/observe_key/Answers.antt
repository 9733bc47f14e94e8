use Rattle.tko_client.specs.Steps.{client_ghosts}
use Rattle.tko_client.proofs.RecordedLemmas.{key_tried, key_untried}
use Rattle.tko_client.proofs.keys.observe_key.Goals as goal

pub returns-in-Ok-clause-recorded : goal.returns-in-Ok-clause-recorded
returns-in-Ok-clause-recorded g c =
    key_tried (client_ghosts {C = g.row.C.Denot} g.H.Health g.T.Trails) c.in-Tried.is
    c.in-Ok.ensures.recorded c.record_trail.ensures.noted

pub returns-in-Err-clause-recorded : goal.returns-in-Err-clause-recorded
returns-in-Err-clause-recorded g c =
    key_untried (client_ghosts {C = g.row.C.Denot} g.H.Health g.T.Trails) c.in-Tried.is
    c.lose.ensures c.in-Err.ensures.err c.record_trail.ensures.noted
