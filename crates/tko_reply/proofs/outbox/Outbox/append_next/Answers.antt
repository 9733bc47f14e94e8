use Rattle.std.proofs.Common.{subst, sym, take}
use Rattle.tko_reply.specs.Answering.{Extends}
use Rattle.tko_reply.proofs.OutboxLemmas.{extends_front}
use Rattle.tko_reply.proofs.ResultLemmas.{on_err}
use Rattle.tko_reply.proofs.outbox.Outbox.append_next.Goals as goal

pub returns-in_err-append_values-clause-err : goal.returns-in_err-append_values-clause-err
returns-in_err-append_values-clause-err c =
    let front = extends_front c.args.waiting c.args.self.now in
    on_err _ (subst (Extends (take c.args.waiting c.args.self.now))
    (sym c.in_err-append_values.ensures.err) front)
