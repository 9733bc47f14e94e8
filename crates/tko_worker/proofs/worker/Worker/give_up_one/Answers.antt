use Rattle.std.proofs.Common.{refl, subst}
use Rattle.tko_mux.specs.Giving.{AllWaitOn}
use Rattle.tko_worker.proofs.GaveUpLemmas.{nobody_gave}
use Rattle.tko_worker.proofs.worker.Worker.give_up_one.Goals as goal

pub returns-in-Ok-None-clause-none : goal.returns-in-Ok-None-clause-none
returns-in-Ok-None-clause-none g c =
    let both = nobody_gave (g.T.Talking.awaited, g.T.Talking.talk, g.L.Port.port)
    (λ guest. g.T.Talking.asks_for guest.talk) (λ guest. g.T.Talking.waits_for guest.talk)
    (λ guest. g.T.Talking.has_next guest.talk) c.args.self.now c.give_up.new.self c.args.server
    c.judged.result c.due.result c.in-Ok-None.field-0 c.in-Ok-None.ensures.given
    c.in-Ok-None.field-0-is in
    record {
      kept = both.0;
      peer = refl;
      wait = subst (λ now. AllWaitOn (λ guest. g.T.Talking.has_next guest.talk)
          c.give_up.new.self.mux c.args.server now) c.judged.ensures both.1;
    }
