use Rattle.std.proofs.Common.{rules, None, Some, refl, subst, sym}
use Rattle.tko_worker.specs.Workers.{NobodyForgotten, WorkerState}
use Rattle.tko_worker.proofs.ReachLemmas.{one_reached}
use Rattle.tko_worker.proofs.GaveUpLemmas.{gave_others, given_acted, given_by}
use Rattle.tko_worker.proofs.worker.Worker.give_up.Goals as goal

pub returns-in-Ok-Some-clause-order : goal.returns-in-Ok-Some-clause-order
returns-in-Ok-Some-clause-order g c = record {
  ready = c.list_reached.ensures.order.ready;
  linked = c.list_reached.ensures.order.linked;
  nobody = one_reached (g.T.Talking.awaited, g.T.Talking.talk, g.L.Port.port)
      c.self.inside.mux.roster.slots c.give_up.new.self.roster.slots
      c.list_reached.new.mux.roster.slots c.in-Ok-Some.delivery c.self.inside.touched
      c.list_reached.new.numbers c.self.inside.spent
      (subst (λ (w : WorkerState _ _ _). NobodyForgotten
      (g.T.Talking.awaited, g.T.Talking.talk, g.L.Port.port) w.mux.roster.slots w.touched w.spent)
      (sym c.self.view_is) c.requires.order.nobody)
      (gave_others (g.T.Talking.awaited, g.T.Talking.talk, g.L.Port.port)
      (λ guest. g.T.Talking.asks_for guest.talk) (λ guest. g.T.Talking.waits_for guest.talk)
      (λ guest. g.T.Talking.has_next guest.talk) c.self.inside.mux c.give_up.new.self
      c.args.server c.args.now c.args.due c.in-Ok-Some.delivery (search rules))
      c.list_reached.ensures.others c.list_reached.ensures.listed;
}

pub returns-in-Ok-Some-clause-given : goal.returns-in-Ok-Some-clause-given
returns-in-Ok-Some-clause-given g c =
    given_by (g.T.Talking.awaited, g.T.Talking.talk, g.L.Port.port)
    (λ guest. g.T.Talking.asks_for guest.talk) (λ guest. g.T.Talking.waits_for guest.talk)
    (λ guest. g.T.Talking.has_next guest.talk) _ c.args.self.now c.give_up.new.self
    c.list_reached.new.mux c.list_reached.new.numbers c.list_reached.new.ends c.args.server
    c.args.now c.args.due c.give_up.result (Some c.in-Ok-Some.delivery) c.self.view_is
    (search rules) c.give_up.ensures.ends c.list_reached.ensures.ends

pub returns-in-Ok-None-clause-given : goal.returns-in-Ok-None-clause-given
returns-in-Ok-None-clause-given g c =
    given_by (g.T.Talking.awaited, g.T.Talking.talk, g.L.Port.port)
    (λ guest. g.T.Talking.asks_for guest.talk) (λ guest. g.T.Talking.waits_for guest.talk)
    (λ guest. g.T.Talking.has_next guest.talk) _ c.args.self.now c.give_up.new.self
    c.give_up.new.self c.self.inside.touched c.self.inside.ends c.args.server
    c.args.now c.args.due c.give_up.result None c.self.view_is
    (search rules) c.give_up.ensures.ends (refl, refl)

pub returns-in-Ok-Some-clause-acted : goal.returns-in-Ok-Some-clause-acted
returns-in-Ok-Some-clause-acted g c =
    given_acted (g.T.Talking.awaited, g.T.Talking.talk, g.L.Port.port)
    (λ guest. g.T.Talking.asks_for guest.talk) (λ guest. g.T.Talking.waits_for guest.talk)
    (λ guest. g.T.Talking.has_next guest.talk) c.args.self.now _ c.args.server c.args.now
    c.args.due _ (returns-in-Ok-Some-clause-given g c)

pub returns-in-Ok-None-clause-acted : goal.returns-in-Ok-None-clause-acted
returns-in-Ok-None-clause-acted g c =
    given_acted (g.T.Talking.awaited, g.T.Talking.talk, g.L.Port.port)
    (λ guest. g.T.Talking.asks_for guest.talk) (λ guest. g.T.Talking.waits_for guest.talk)
    (λ guest. g.T.Talking.has_next guest.talk) c.args.self.now _ c.args.server c.args.now
    c.args.due _ (returns-in-Ok-None-clause-given g c)
