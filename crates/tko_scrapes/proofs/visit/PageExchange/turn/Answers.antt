use Rattle.tko_scrapes.specs.Pages.{served}
use Rattle.tko_scrapes.proofs.VisitLemmas.{calls_answered}
use Rattle.tko_scrapes.proofs.visit.PageExchange.turn.Goals as goal

pub invariant_of-self-clause-answered : goal.invariant_of-self-clause-answered
invariant_of-self-clause-answered g c =
    calls_answered served c.args.pages.now c.advance.new.service _ _
    c.move_bytes-moved.new.self.answered c.advance.ensures.calls
