use Rattle.std.proofs.Common.{refl}
use Rattle.tko_text.proofs.ReadingLemmas.{Emits-beyond}
use Rattle.tko_text.proofs.step.fail.Goals as goal

pub returns-clause-steps : goal.returns-clause-steps
returns-clause-steps c = (Emits-beyond c.args.buffer.now c.requires, λ _. refl)
