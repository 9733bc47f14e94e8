use Rattle.std.proofs.Common.{None}
use Rattle.tko_prober.proofs.RoundLemmas.{visited_by}
use Rattle.tko_session.proofs.rounds.visit.Goals as goal

pub returns-in_default-clause-visit : goal.returns-in_default-clause-visit
returns-in_default-clause-visit g c = visited_by None c.in_default.ensures.visit
