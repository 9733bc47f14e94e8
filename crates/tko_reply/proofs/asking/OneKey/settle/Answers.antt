use Rattle.tko_reply.proofs.GoingLemmas.{ended_at}
use Rattle.tko_reply.proofs.asking.OneKey.settle.Goals as goal

pub returns-in-Ok-clause-ok : goal.returns-in-Ok-clause-ok
returns-in-Ok-clause-ok c =
    ended_at c.args.stage c.args.self.now c.put.new.self c.args.outbox.now c.put.new.outbox
    c.in-Done.trail c.in-Done.is c.put.ensures.request c.response.ensures c.in-Ok.ensures.ok
