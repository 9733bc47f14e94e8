use Rattle.tko_text.proofs.CuttingLemmas.{Emits-fed, one_reading}
use Rattle.tko_text.proofs.laws.any_cutting.Goals as goal

pub returns-clause-feeding : goal.returns-clause-feeding
returns-clause-feeding c = Emits-fed

pub returns-clause-one : goal.returns-clause-one
returns-clause-one c = one_reading
