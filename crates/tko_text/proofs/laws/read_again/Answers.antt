use Rattle.tko_text.proofs.ReadAgainLemmas.{read_again}
use Rattle.tko_text.proofs.laws.read_again.Goals as goal

pub returns : goal.returns
returns c = read_again
