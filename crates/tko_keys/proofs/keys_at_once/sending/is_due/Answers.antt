use Rattle.std.proofs.Common.{rules}
use Rattle.tko_keys.proofs.FirstLemmas.{both_found}
use Rattle.tko_keys.proofs.DueLemmas.{due_there}
use Rattle.tko_keys.proofs.keys_at_once.sending.is_due.Goals as goal

pub returns : goal.returns
returns c = both_found (due_there c.args.server) c.args.due.now.items _ (search rules)
