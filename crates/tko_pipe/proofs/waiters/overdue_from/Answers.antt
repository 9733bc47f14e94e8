use Rattle.std.proofs.Common.{rules}
use Rattle.tko_pipe.proofs.WaiterLemmas.{none_due}
use Rattle.tko_pipe.proofs.waiters.overdue_from.Goals as goal

pub returns-clause-none : goal.returns-clause-none
returns-clause-none c =
    none_due c.args.waiters.now.items c.args.now c.args.from c.loop-place.place (search rules)
    c.loop-place.invariant.1
