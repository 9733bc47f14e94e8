use Rattle.std.proofs.Common.{rules}
use Rattle.tko_port.proofs.PortLemmas.{has_some}
use Rattle.tko_port.proofs.settling.has_output.Goals as goal

pub returns-clause-some : goal.returns-clause-some
returns-clause-some g c =
    has_some c.is_empty.result c.output.result.now c.output.ensures.front.0
    (g.T.Talking.talk c.args.talk.now).output (search rules) c.output.ensures.front.1
