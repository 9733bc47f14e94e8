-- Each clause is one part of what holds of the world in every run of the thread alone.
use Rattle.tko_steps.proofs.SoloRunLemmas.{HoldsAlone-run, Replays-run}
use Rattle.tko_steps.proofs.law.one_thread_alone.Goals as goal

pub returns-clause-calls : goal.returns-clause-calls
returns-clause-calls c = λ s ranges thread turns all. (HoldsAlone-run s ranges thread turns all).1.calls

pub returns-clause-replies : goal.returns-clause-replies
returns-clause-replies c = Replays-run

pub returns-clause-contended : goal.returns-clause-contended
returns-clause-contended c = λ s ranges thread turns all. (HoldsAlone-run s ranges thread turns all).1.plain
