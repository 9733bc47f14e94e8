use Rattle.tko_prober.proofs.RoundLemmas.{round_visited}
use Rattle.tko_session.proofs.rounds.round.Goals as goal

pub returns-then-visit_all-clause-round : goal.returns-then-visit_all-clause-round
returns-then-visit_all-clause-round g c = round_visited c.in-Some.ensures.begun c.if-visit_all.ensures.visits

pub returns-clause-round : goal.returns-clause-round
returns-clause-round g c = round_visited c.in-Some.ensures.begun c.if-visit_all.ensures.visits
