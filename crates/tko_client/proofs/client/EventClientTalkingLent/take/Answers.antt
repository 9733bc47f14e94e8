use Rattle.std.proofs.Common.{None, refl, subst, sym}
use Rattle.tko_port.specs.Talks.{Took}
use Rattle.tko_client.specs.Answerings.{client_at}
use Rattle.tko_client.specs.Clients.{HasOutcomeTaken, phase_at}
use Rattle.tko_client.specs.Comings.{is_unsent, result_of}
use Rattle.tko_client.specs.Steps.{client_ghosts}
use Rattle.tko_client.proofs.ClientLemmas.{waits_open}
use Rattle.tko_client.proofs.LivingLemmas.{still_ready}
use Rattle.tko_client.proofs.client.EventClientTalkingLent.take.Goals as goal

pub returns-clause-ready : goal.returns-clause-ready
returns-clause-ready g c = λ came went was.
    let ghosts = client_ghosts {C = g.row.C.Denot} g.H.Health g.T.Trails in
    let halt = c.take-halt.ensures.taken in
    let it = c.args.self.now.answering in
    let new = c.take-halt.new.it in
    still_ready ghosts (Took c.args.server c.args.came None) c.args.self.now _ c.args.lent.now.parts
    c.take-halt.new.parts came went halt.left.stays
    (record { answering = halt.left.ready; stands = halt.left.stands; reading = halt.left.reading })
    (subst (λ p. HasOutcomeTaken ghosts (is_unsent c.args.came) c.args.server
    (result_of c.args.came) (client_at p it, c.args.lent.now.parts)
    (client_at (phase_at c.take-halt.result.course) new, c.take-halt.new.parts))
    (sym (waits_open c.args.self.now.course it c.args.server was.over.stands c.requires.awaits))
    halt.taken)
    refl refl was
