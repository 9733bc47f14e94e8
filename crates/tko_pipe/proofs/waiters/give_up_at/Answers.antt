use Rattle.tko_pipe.proofs.WaiterLemmas.{changed_at}
use Rattle.tko_pipe.proofs.waiters.give_up_at.Goals as goal

pub returns-in-Client : goal.returns-in-Client
returns-in-Client c =
    changed_at c.args.waiters.now.items c.args.place c.in-Client.number c.index-waiter.result.now
    c.gone.result c.index-waiter.ensures c.in-Client.is c.gone.ensures
