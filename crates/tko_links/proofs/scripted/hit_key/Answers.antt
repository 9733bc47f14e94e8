use Rattle.tko_links.proofs.HitLemmas.{answers_none}
use Rattle.tko_links.proofs.scripted.hit_key.Goals as goal

pub returns-in_default-clause-came : goal.returns-in_default-clause-came
returns-in_default-clause-came c = answers_none _ _
