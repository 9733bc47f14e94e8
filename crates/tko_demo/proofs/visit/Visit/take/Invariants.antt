use Rattle.tko_demo.specs.Visits.{Serves, visit_state}
use Rattle.tko_text.specs.Reading.{fed}
use Rattle.tko_demo.proofs.visit.Visit.take.Given as goal

-- the items so far were answered
abbrev pub invariant-loop : goal.invariant-loop
invariant-loop l =
    Serves (visit_state (fed l.fn.self.reader l.piece) l.fn.self.is_over l.fn.store l.fn.out.items)
    (visit_state l.self.reader l.self.is_over l.store l.out.items)
