use Rattle.std.proofs.Common.{rules, ◌≡◌, ◌∙◌, None, Some, Ok, refl, subst, sym}
use Rattle.tko_worker.specs.Workers.{NobodyForgotten, WorkerState}
use Rattle.tko_worker.proofs.ReachLemmas.{one_reached, take_others, unread_nobody}
use Rattle.tko_worker.proofs.TakenLemmas.{taken_by}
use Rattle.tko_worker.proofs.ActedLemmas.{taken_acted}
use Rattle.tko_worker.proofs.worker.Worker.take.Goals as goal

pub returns-in-Ok-Some-clause-order : goal.returns-in-Ok-Some-clause-order
returns-in-Ok-Some-clause-order g c = record {
  ready = c.list_reached.ensures.order.ready;
  linked = c.list_reached.ensures.order.linked;
  nobody = one_reached (g.T.Talking.awaited, g.T.Talking.talk, g.L.Port.port)
      c.self.inside.mux.roster.slots c.take.new.self.roster.slots
      c.list_reached.new.mux.roster.slots c.in-Ok-Some.delivery c.self.inside.touched
      c.list_reached.new.numbers c.self.inside.spent
      (subst (λ (w : WorkerState _ _ _). NobodyForgotten
      (g.T.Talking.awaited, g.T.Talking.talk, g.L.Port.port) w.mux.roster.slots w.touched w.spent)
      (sym c.self.view_is) c.requires.order.nobody)
      (take_others (g.T.Talking.awaited, g.T.Talking.talk, g.L.Port.port)
      (λ guest. g.T.Talking.asks_for guest.talk) (λ guest. g.T.Talking.waits_for guest.talk)
      c.self.inside.mux c.take.new.self c.args.server
      c.args.due c.in-Ok-Some.delivery c.take.result c.take.ensures.read (search rules))
      c.list_reached.ensures.others c.list_reached.ensures.listed;
}

pub returns-in-Ok-None-clause-order : goal.returns-in-Ok-None-clause-order
returns-in-Ok-None-clause-order g c = record {
  ready = c.take.ensures.order.ready;
  linked = c.take.ensures.order.linked;
  nobody = unread_nobody (g.T.Talking.awaited, g.T.Talking.talk, g.L.Port.port)
      (λ guest. g.T.Talking.asks_for guest.talk)
      (λ guest. g.T.Talking.waits_for guest.talk) c.self.inside.mux c.take.new.self c.args.server
      c.args.due c.self.inside.touched c.self.inside.spent c.take.result
      c.take.ensures.read
      (λ delivery is. let none : c.take.result ≡ Ok None = search rules in
      let both : Ok None ≡ Ok (Some delivery) = sym none ∙ is in let f : ⊥ = cc both in f)
      (subst (λ (w : WorkerState _ _ _). NobodyForgotten
      (g.T.Talking.awaited, g.T.Talking.talk, g.L.Port.port) w.mux.roster.slots w.touched w.spent)
      (sym c.self.view_is) c.requires.order.nobody);
}

pub returns-in-Err-clause-order : goal.returns-in-Err-clause-order
returns-in-Err-clause-order g c = record {
  ready = c.take.ensures.order.ready;
  linked = c.take.ensures.order.linked;
  nobody = unread_nobody (g.T.Talking.awaited, g.T.Talking.talk, g.L.Port.port)
      (λ guest. g.T.Talking.asks_for guest.talk)
      (λ guest. g.T.Talking.waits_for guest.talk) c.self.inside.mux c.take.new.self c.args.server
      c.args.due c.self.inside.touched c.self.inside.spent c.take.result
      c.take.ensures.read
      (λ delivery is. let both = sym c.in-Err.is ∙ is in let f : ⊥ = cc both in f)
      (subst (λ (w : WorkerState _ _ _). NobodyForgotten
      (g.T.Talking.awaited, g.T.Talking.talk, g.L.Port.port) w.mux.roster.slots w.touched w.spent)
      (sym c.self.view_is) c.requires.order.nobody);
}

pub returns-in-Ok-Some-clause-taken : goal.returns-in-Ok-Some-clause-taken
returns-in-Ok-Some-clause-taken g c =
    taken_by (g.T.Talking.awaited, g.T.Talking.talk, g.L.Port.port)
    (λ guest. g.T.Talking.asks_for guest.talk)
    (λ guest. g.T.Talking.waits_for guest.talk) _ c.args.self.now c.take.new.self
    c.list_reached.new.mux c.list_reached.new.numbers c.list_reached.new.ends c.args.server
    c.args.due c.take.result
    (Ok (Some c.in-Ok-Some.delivery)) c.self.view_is (search rules) c.take.ensures.read
    c.list_reached.ensures.ends

pub returns-in-Ok-None-clause-taken : goal.returns-in-Ok-None-clause-taken
returns-in-Ok-None-clause-taken g c =
    taken_by (g.T.Talking.awaited, g.T.Talking.talk, g.L.Port.port)
    (λ guest. g.T.Talking.asks_for guest.talk)
    (λ guest. g.T.Talking.waits_for guest.talk) _ c.args.self.now c.take.new.self c.take.new.self
    c.self.inside.touched c.self.inside.ends c.args.server c.args.due c.take.result (Ok None)
    c.self.view_is
    (search rules) c.take.ensures.read (refl, refl)

pub returns-in-Err-clause-taken : goal.returns-in-Err-clause-taken
returns-in-Err-clause-taken g c =
    taken_by (g.T.Talking.awaited, g.T.Talking.talk, g.L.Port.port)
    (λ guest. g.T.Talking.asks_for guest.talk)
    (λ guest. g.T.Talking.waits_for guest.talk) _ c.args.self.now c.take.new.self c.take.new.self
    c.self.inside.touched c.self.inside.ends c.args.server c.args.due c.take.result _
    c.self.view_is
    c.in-Err.is c.take.ensures.read (refl, refl)

pub returns-in-Ok-Some-clause-acted : goal.returns-in-Ok-Some-clause-acted
returns-in-Ok-Some-clause-acted g c =
    taken_acted (g.T.Talking.awaited, g.T.Talking.talk, g.L.Port.port)
    (λ guest. g.T.Talking.asks_for guest.talk)
    (λ guest. g.T.Talking.waits_for guest.talk) c.args.self.now _ c.args.server c.args.due _
    (returns-in-Ok-Some-clause-taken g c)

pub returns-in-Ok-None-clause-acted : goal.returns-in-Ok-None-clause-acted
returns-in-Ok-None-clause-acted g c =
    taken_acted (g.T.Talking.awaited, g.T.Talking.talk, g.L.Port.port)
    (λ guest. g.T.Talking.asks_for guest.talk)
    (λ guest. g.T.Talking.waits_for guest.talk) c.args.self.now _ c.args.server c.args.due _
    (returns-in-Ok-None-clause-taken g c)

pub returns-in-Err-clause-acted : goal.returns-in-Err-clause-acted
returns-in-Err-clause-acted g c =
    taken_acted (g.T.Talking.awaited, g.T.Talking.talk, g.L.Port.port)
    (λ guest. g.T.Talking.asks_for guest.talk)
    (λ guest. g.T.Talking.waits_for guest.talk) c.args.self.now _ c.args.server c.args.due _
    (returns-in-Err-clause-taken g c)
