use Rattle.tko_text.specs.ResponseKinds.{kind_seen}
use Rattle.tko_text.proofs.ResponseLengthLemmas.{least_of_none}
use Rattle.tko_text.proofs.response.least.least_of.Goals as goal

pub returns-in_default : goal.returns-in_default
returns-in_default c = least_of_none (kind_seen c.args.kind) c.args.bytes.now
