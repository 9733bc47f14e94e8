use Rattle.std.proofs.Common.{None, Some, refl, subst, sym}
use Rattle.tko_worker.specs.Workers.{NobodyForgotten, WorkerState}
use Rattle.tko_worker.proofs.ReachLemmas.{leave_others, one_reached}
use Rattle.tko_worker.proofs.TakenLemmas.{left_by}
use Rattle.tko_worker.proofs.ActedLemmas.{left_acted}
use Rattle.tko_worker.proofs.worker.Worker.leave.Goals as goal

pub returns-in-Some-clause-order : goal.returns-in-Some-clause-order
returns-in-Some-clause-order g c = record {
  ready = c.list_reached.ensures.order.ready;
  linked = c.list_reached.ensures.order.linked;
  nobody = one_reached (g.T.Talking.awaited, g.T.Talking.talk, g.L.Port.port)
      c.self.inside.mux.roster.slots c.leave.new.self.roster.slots
      c.list_reached.new.mux.roster.slots c.in-Some.delivery c.self.inside.touched
      c.list_reached.new.numbers c.self.inside.spent
      (subst (λ (w : WorkerState _ _ _). NobodyForgotten
      (g.T.Talking.awaited, g.T.Talking.talk, g.L.Port.port) w.mux.roster.slots w.touched w.spent)
      (sym c.self.view_is) c.requires.order.nobody)
      (leave_others (g.T.Talking.awaited, g.T.Talking.talk, g.L.Port.port)
      (λ guest. g.T.Talking.asks_for guest.talk) c.self.inside.mux c.leave.new.self c.args.server
      c.args.due c.in-Some.delivery c.leave.result c.leave.ensures.left c.in-Some.is)
      c.list_reached.ensures.others c.list_reached.ensures.listed;
}

pub returns-in-Some-clause-told : goal.returns-in-Some-clause-told
returns-in-Some-clause-told g c =
    left_by (g.T.Talking.awaited, g.T.Talking.talk, g.L.Port.port)
    (λ guest. g.T.Talking.asks_for guest.talk) _ c.args.self.now c.leave.new.self
    c.list_reached.new.mux c.list_reached.new.numbers c.list_reached.new.ends c.args.server
    c.args.due c.leave.result
    (Some c.in-Some.delivery) c.self.view_is c.in-Some.is c.leave.ensures.left
    c.list_reached.ensures.ends

pub returns-in-None-clause-told : goal.returns-in-None-clause-told
returns-in-None-clause-told g c =
    left_by (g.T.Talking.awaited, g.T.Talking.talk, g.L.Port.port)
    (λ guest. g.T.Talking.asks_for guest.talk) _ c.args.self.now c.leave.new.self c.leave.new.self
    c.self.inside.touched c.self.inside.ends c.args.server c.args.due c.leave.result None
    c.self.view_is
    c.in-None.is c.leave.ensures.left (refl, refl)

pub returns-in-Some-clause-acted : goal.returns-in-Some-clause-acted
returns-in-Some-clause-acted g c =
    left_acted (g.T.Talking.awaited, g.T.Talking.talk, g.L.Port.port)
    (λ guest. g.T.Talking.asks_for guest.talk) c.args.self.now _ c.args.server c.args.due _
    (returns-in-Some-clause-told g c)

pub returns-in-None-clause-acted : goal.returns-in-None-clause-acted
returns-in-None-clause-acted g c =
    left_acted (g.T.Talking.awaited, g.T.Talking.talk, g.L.Port.port)
    (λ guest. g.T.Talking.asks_for guest.talk) c.args.self.now _ c.args.server c.args.due _
    (returns-in-None-clause-told g c)
