use Rattle.std.proofs.Common.{rules}
use Rattle.tko_keys.proofs.DueLemmas.{goes_alone}
use Rattle.tko_keys.proofs.keys_at_once.sending.line_for.Goals as goal

pub returns-in-ByKey-clause-goes : goal.returns-in-ByKey-clause-goes
returns-in-ByKey-clause-goes c = goes_alone (search rules)
