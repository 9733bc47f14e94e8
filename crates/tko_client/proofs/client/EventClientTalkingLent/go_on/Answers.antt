use Rattle.std.proofs.Common.{rules, None, refl}
use Rattle.tko_port.specs.Talks.{Went}
use Rattle.tko_client.specs.Steps.{client_ghosts}
use Rattle.tko_client.proofs.ClientLemmas.{stage_awaits}
use Rattle.tko_client.proofs.LivingLemmas.{still_ready}
use Rattle.tko_client.proofs.client.EventClientTalkingLent.go_on.Goals as goal

pub returns-in-Short-course-clause-ready : goal.returns-in-Short-course-clause-ready
returns-in-Short-course-clause-ready g c = λ came went was.
    let halt = c.go_on-halt.ensures in
    still_ready (client_ghosts {C = g.row.C.Denot} g.H.Health g.T.Trails)
    (Went None) c.args.self.now _ c.args.lent.now.parts c.go_on-halt.new.parts came went
    halt.left.stays
    (record { answering = halt.left.ready; stands = halt.left.stands; reading = halt.left.reading })
    (search rules) refl refl was

pub returns-in_default-clause-goes : goal.returns-in_default-clause-goes
returns-in_default-clause-goes g c = record {
  asks = record {
    asks = c.go_on-halt.ensures.asks;
    request = c.go_on-halt.ensures.left.request;
    stage = stage_awaits c.go_on-halt.result.course c.go_on-halt.new.it
        c.go_on-halt.ensures.left.stands;
  };
  taken = refl;
  replies = c.go_on-halt.ensures.replies;
}

pub returns-in_default-clause-ready : goal.returns-in_default-clause-ready
returns-in_default-clause-ready g c = λ came went was.
    let halt = c.go_on-halt.ensures in
    still_ready (client_ghosts {C = g.row.C.Denot} g.H.Health g.T.Trails)
    (Went None) c.args.self.now _ c.args.lent.now.parts c.go_on-halt.new.parts came went
    halt.left.stays
    (record { answering = halt.left.ready; stands = halt.left.stands; reading = halt.left.reading })
    (search rules) refl refl was
