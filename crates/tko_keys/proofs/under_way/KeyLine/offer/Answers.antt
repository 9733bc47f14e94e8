use Rattle.std.proofs.Common.{rules}
use Rattle.tko_keys.proofs.LineLemmas.{joined}
use Rattle.tko_keys.proofs.under_way.KeyLine.offer.Goals as goal

pub returns-clause-ok : goal.returns-clause-ok
returns-clause-ok c = λ unique keys was.
    joined was (search rules) (search rules) (search rules) (search rules) (search rules)
