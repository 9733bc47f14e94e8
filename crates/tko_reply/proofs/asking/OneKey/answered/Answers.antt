use Rattle.std.proofs.Common.{[]}
use Rattle.tko_reply.specs.Standing.{asking}
use Rattle.tko_reply.proofs.GoingLemmas.{answered_goes, answered_lost, key_dropped}
use Rattle.tko_reply.proofs.ResultLemmas.{both_ok}
use Rattle.tko_reply.proofs.asking.OneKey.answered.Goals as goal

pub returns-clause-ok : goal.returns-clause-ok
returns-clause-ok g c =
    let on = c.answered-stage.ensures in
    both_ok c.settle.result c.settle.ensures.ok c.settle.ensures.same (λ at settles same.
    answered_goes c.args.config.now c.answered-stage.result
    (asking c.args.awaited c.args.self.now) c.args.targets.now c.args.outcome [] _ _
    c.failover_exptime-exptime.ensures on.request on.calls same settles)

pub returns-clause-dropped : goal.returns-clause-dropped
returns-clause-dropped g c =
    key_dropped c.args.self.now.share c.args.outbox.now c.settle.new.outbox c.settle.result
    c.settle.ensures.err c.settle.ensures.lost (λ trail is.
    answered_lost c.args.config.now c.answered-stage.result
    (asking c.args.awaited c.args.self.now) c.args.targets.now c.args.outcome [] trail
    c.answered-stage.ensures.calls is)
