use Rattle.std.proofs.Common.{rules}
use Rattle.tko_client.proofs.LivingLemmas.{new_ready}
use Rattle.tko_client.proofs.client.EventClient.new.Goals as goal

pub returns-clause-ready : goal.returns-clause-ready
returns-clause-ready c = λ config. new_ready config c.args.plan _ (search rules) (search rules)
