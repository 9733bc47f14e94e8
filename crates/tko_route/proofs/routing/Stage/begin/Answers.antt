use Rattle.std.proofs.Common.{◌≡◌, [], rules}
use Rattle.tko_route.proofs.TrailLemmas.{makes_none}
use Rattle.tko_route.proofs.routing.Stage.begin.Goals as goal

pub returns-clause-calls : goal.returns-clause-calls
returns-clause-calls g c =
    let on = c.look_on.ensures.calls in
    let empty : c.in_ok-attempts.attempts.items ≡ [] = search rules in
    record { items = on.items; gains = on.gains; is = λ form. on.is form [] (makes_none empty) }
