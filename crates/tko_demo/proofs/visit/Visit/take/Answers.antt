use Rattle.std.proofs.Common.{rules}
use Rattle.tko_demo.proofs.VisitLemmas.{serves_none, serves_one}
use Rattle.tko_demo.specs.Visits.{OneMore}
use Rattle.tko_demo.proofs.visit.Visit.take.Goals as goal

pub loop-init : goal.loop-init
loop-init c = serves_none _ _ _ _ _ (search rules)

pub loop-preserved : goal.loop-preserved
loop-preserved c =
    OneMore _ _ c.loop.invariant (serves_one _ _ c.in_ok-answer_next.field-0 (search rules) c.in_ok-answer_next.ensures)
