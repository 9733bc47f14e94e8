use Rattle.std.proofs.Common.{subst, sym}
use Rattle.tko_client.specs.Calls.{IsTakenTo}
use Rattle.tko_client.specs.Comings.{is_unsent, result_of}
use Rattle.tko_client.specs.Steps.{client_ghosts}
use Rattle.tko_client.proofs.taking.take.Goals as goal

pub returns-clause-taken : goal.returns-clause-taken
returns-clause-taken g c =
    let ghosts = client_ghosts {C = g.row.C.Denot} g.H.Health g.T.Trails in
    let servers = g.H.Health.servers in
    let halt = c.take_came-halt in
    let told = c.tell_response.ensures in
    let unsent = is_unsent c.args.came in
    let result = result_of c.args.came in
    subst (λ it. IsTakenTo ghosts servers unsent c.args.server result halt.result.course
    halt.result.asked (c.args.it.now, c.args.parts.now) (it, halt.new.parts))
    (sym c.note_sent.ensures)
    (subst (λ it. IsTakenTo ghosts servers unsent c.args.server result halt.result.course
    halt.result.asked (it, c.args.parts.now) (halt.new.it, halt.new.parts)) told.same
    (subst (λ p. IsTakenTo ghosts servers unsent c.args.server result halt.result.course
    halt.result.asked (c.tell_response.new.it, p) (halt.new.it, halt.new.parts)) told.parts
    halt.ensures.taken))
