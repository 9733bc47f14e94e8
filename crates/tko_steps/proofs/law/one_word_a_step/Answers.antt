use Rattle.tko_steps.proofs.StepLemmas.{on_one_word}
use Rattle.tko_steps.proofs.law.one_word_a_step.Goals as goal

pub returns : goal.returns
returns c = on_one_word
