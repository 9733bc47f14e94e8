use Rattle.std.proofs.Common.{ap}
use Rattle.tko_word.specs.Words.{server_in}
use Rattle.tko_word.proofs.WordLemmas.{server_in_same}
use Rattle.tko_word.proofs.law.one_reading.Goals as goal

pub returns-clause-same : goal.returns-clause-same
returns-clause-same c = λ one other is are. (λ e. ap server_in e, server_in_same one other is are)
