use Rattle.tko_tcp.proofs.TimeLemmas.{later_still}
use Rattle.tko_tcp.proofs.names.Names.addresses.Goals as goal

pub returns-in_err-turn : goal.returns-in_err-turn
returns-in_err-turn g c = later_still c.loop.invariant c.look.ensures.later

pub loop-preserved : goal.loop-preserved
loop-preserved g c = later_still c.loop.invariant c.look.ensures.later
