use Rattle.tko_client.specs.Steps.{client_ghosts}
use Rattle.tko_client.proofs.RecordedLemmas.{recorded_began, recorded_tried, unrecorded_tried}
use Rattle.tko_client.proofs.calls.observe.Goals as goal

pub returns-in-Ok-clause-ok : goal.returns-in-Ok-clause-ok
returns-in-Ok-clause-ok g c =
    recorded_began (client_ghosts {C = g.row.C.Denot} g.H.Health g.T.Trails) c.args.session.now.work
    c.in-Began.is c.requires.began c.in-Ok.ensures.recorded

pub returns-in-Ok-observe_trail-clause-ok : goal.returns-in-Ok-observe_trail-clause-ok
returns-in-Ok-observe_trail-clause-ok g c =
    let told = c.in-Ok-observe_trail.ensures in
    recorded_tried (client_ghosts {C = g.row.C.Denot} g.H.Health g.T.Trails) c.args.session.now.work
    c.in-Tried.is told.recorded told.noted

pub returns-in-Err-observe_trail-clause-err : goal.returns-in-Err-observe_trail-clause-err
returns-in-Err-observe_trail-clause-err g c =
    let told = c.in-Err-observe_trail.ensures in
    unrecorded_tried (client_ghosts {C = g.row.C.Denot} g.H.Health g.T.Trails) c.in-Tried.is
    told.session.dropped told.session.attempts told.err told.noted c.observe_drop-in-Err-observe_trail.ensures
