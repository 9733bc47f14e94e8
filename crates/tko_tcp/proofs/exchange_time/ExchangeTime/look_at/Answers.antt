use Rattle.tko_tcp.proofs.TimeLemmas.{looked_later}
use Rattle.tko_tcp.proofs.exchange_time.ExchangeTime.look_at.Goals as goal

pub returns-clause-later : goal.returns-clause-later
returns-clause-later c =
    looked_later c.args.self.now _ _ _ _ _ _ (rw (← c.moment-before.ensures) c.moment-before.type_inv)
    c.read.ensures c.look.ensures
