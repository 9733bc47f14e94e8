use Rattle.std.proofs.Common.{rules, ◌≡◌, false, subst}
use Rattle.std.specs.Bool.{OnFalse}
use Rattle.tko_mux.specs.Muxes.{line_at}
use Rattle.tko_port.specs.Wires.{is_first_late}
use Rattle.tko_worker.proofs.TakenLemmas.{done_still, still_done}
use Rattle.tko_worker.proofs.ActedLemmas.{lines_acted, worker_acted_on}
use Rattle.tko_worker.proofs.worker.Worker.serve_server.Goals as goal

pub returns-clause-done : goal.returns-clause-done
returns-clause-done g c =
    done_still g.L.Port.port (λ guest. g.T.Talking.waits_for guest.talk)
    (λ guest. g.T.Talking.has_next guest.talk) c.args.moments.judged c.expire.new.self
    c.give_up_late.new.self c.expire.new.peer c.give_up_late.new.peer c.args.server
    c.give_up_late.result c.expire.result (search rules) c.give_up_late.ensures.none
    (still_done g.L.Port.port (λ guest. g.T.Talking.waits_for guest.talk) c.args.moments.judged
    c.pull.new.self c.expire.new.self c.pull.new.peer c.expire.new.peer c.args.server
    c.expire.result c.expire.ensures.late.kept
    (subst (λ now. OnFalse c.expire.result
    (is_first_late (line_at c.pull.new.self.mux c.args.server) now ≡ false))
    c.judged.ensures c.expire.ensures.late.time)
    c.if-not-pull.ensures.drained)

pub returns-then-not-pull-clause-acts : goal.returns-then-not-pull-clause-acts
returns-then-not-pull-clause-acts g c = record {
  acted = worker_acted_on (g.T.Talking.awaited, g.T.Talking.talk, g.L.Port.port)
      c.args.self.now c.leave_all.new.self c.pull.new.self c.if-not-leave_all.ensures.acted
      c.if-not-pull.ensures.acts.acted;
  order = c.if-not-pull.ensures.acts.order;
}

pub returns-then-expire-clause-acts : goal.returns-then-expire-clause-acts
returns-then-expire-clause-acts g c = record {
  acted = worker_acted_on (g.T.Talking.awaited, g.T.Talking.talk, g.L.Port.port)
      c.args.self.now c.pull.new.self c.expire.new.self
      (worker_acted_on (g.T.Talking.awaited, g.T.Talking.talk, g.L.Port.port)
      c.args.self.now c.leave_all.new.self c.pull.new.self c.if-not-leave_all.ensures.acted
      c.if-not-pull.ensures.acts.acted)
      (lines_acted (g.T.Talking.awaited, g.T.Talking.talk, g.L.Port.port) c.pull.new.self
      c.expire.new.self c.expire.ensures.late.clients);
  order = c.expire.ensures.order;
}

pub returns-clause-acts : goal.returns-clause-acts
returns-clause-acts g c = record {
  acted = worker_acted_on (g.T.Talking.awaited, g.T.Talking.talk, g.L.Port.port)
      c.args.self.now c.expire.new.self c.give_up_late.new.self
      (worker_acted_on (g.T.Talking.awaited, g.T.Talking.talk, g.L.Port.port)
      c.args.self.now c.pull.new.self c.expire.new.self
      (worker_acted_on (g.T.Talking.awaited, g.T.Talking.talk, g.L.Port.port)
      c.args.self.now c.leave_all.new.self c.pull.new.self c.if-not-leave_all.ensures.acted
      c.if-not-pull.ensures.acts.acted)
      (lines_acted (g.T.Talking.awaited, g.T.Talking.talk, g.L.Port.port) c.pull.new.self
      c.expire.new.self c.expire.ensures.late.clients))
      c.give_up_late.ensures.acts.acted;
  order = c.give_up_late.ensures.acts.order;
}
