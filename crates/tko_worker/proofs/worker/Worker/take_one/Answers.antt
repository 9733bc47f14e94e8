use Rattle.tko_worker.proofs.TakenLemmas.{none_unless}
use Rattle.tko_worker.proofs.worker.Worker.take_one.Goals as goal

pub returns-clause-taken : goal.returns-clause-taken
returns-clause-taken g c =
    none_unless (g.T.Talking.awaited, g.T.Talking.talk, g.L.Port.port)
    (λ guest. g.T.Talking.asks_for guest.talk)
    (λ guest. g.T.Talking.waits_for guest.talk) c.args.self.now c.take-taken.new.self c.args.server
    c.args.due c.take-taken.result c.keep_taken.result c.keep_taken.ensures.none
    c.take-taken.ensures.taken
