use Rattle.tko_desk.proofs.tests.hammering.run.Goals as goal

pub open-requires : goal.open-requires
open-requires g c = λ place other inside. (c.requires.passes.each place other inside).0
