use Rattle.std.proofs.Common.{refl, subst, sym}
use Rattle.tko_mux.specs.declared.asking.Given.TheVariants.{Input}
use Rattle.tko_port.specs.Guests.{IsGuestCall}
use Rattle.tko_worker.specs.Workers.{IsNoted, NobodyForgotten, WorkerState}
use Rattle.tko_worker.proofs.NotedLemmas.{event_reached}
use Rattle.tko_worker.proofs.RestLemmas.{act_others}
use Rattle.tko_worker.proofs.ListedLemmas.{one_listed}
use Rattle.tko_worker.specs.Acts.{HasActed}
use Rattle.tko_worker.proofs.ActedLemmas.{act_acted, acted_on, listed_acted}
use Rattle.tko_worker.proofs.worker.Worker.note.Goals as goal

pub returns-clause-order : goal.returns-clause-order
returns-clause-order g c = record {
  ready = c.list.ensures.order.ready;
  linked = c.list.ensures.order.linked;
  nobody = one_listed (g.T.Talking.awaited, g.T.Talking.talk, g.L.Port.port)
      c.self.inside.mux.roster.slots c.act.new.self.roster.slots
      c.list.new.mux.roster.slots c.args.number c.self.inside.touched
      c.list.new.numbers c.self.inside.spent
      (subst (λ (w : WorkerState _ _ _). NobodyForgotten
      (g.T.Talking.awaited, g.T.Talking.talk, g.L.Port.port) w.mux.roster.slots w.touched w.spent)
      (sym c.self.view_is) c.requires.order.nobody)
      (act_others (IsGuestCall g.T.Talking.awaited g.T.Talking.talk g.L.Port.port)
      (λ guest. g.T.Talking.awaited guest.talk) (λ guest. g.T.Talking.asks_for guest.talk)
      c.self.inside.mux c.act.new.self c.args.number 0 (Input c.args.event) c.act.result
      c.act.ensures.some c.act.ensures.kept)
      c.list.ensures.others c.list.ensures.listed;
}

pub returns-clause-noted : goal.returns-clause-noted
returns-clause-noted g c =
    subst (λ (w : WorkerState _ _ _). IsNoted
    (g.T.Talking.awaited, g.T.Talking.talk, g.L.Port.port) c.args.event w c.args.number
    (record {
      mux = c.list.new.mux;
      touched = c.list.new.numbers;
      spent = c.self.inside.spent;
      ends = c.list.new.ends;
    }))
    c.self.view_is
    (record {
      reached = c.act.new.self;
      has_reached = event_reached (g.T.Talking.awaited, g.T.Talking.talk, g.L.Port.port)
          (λ guest. g.T.Talking.asks_for guest.talk) c.self.inside.mux c.act.new.self
          c.args.number c.args.event c.act.result c.requires.event
          c.act.ensures.some c.act.ensures.none c.act.ensures.kept;
      listed = c.list.ensures.ends;
      spent = refl;
    })

pub returns-clause-acted : goal.returns-clause-acted
returns-clause-acted g c =
    subst (λ (w : WorkerState _ _ _). HasActed (
      g.T.Talking.awaited,
      g.T.Talking.talk,
      g.L.Port.port,
    ) w
    (record {
      mux = c.list.new.mux;
      touched = c.list.new.numbers;
      spent = c.self.inside.spent;
      ends = c.list.new.ends;
    })) c.self.view_is
    (acted_on (g.T.Talking.awaited, g.T.Talking.talk, g.L.Port.port)
    (c.self.inside.mux.roster, c.self.inside.ends) (c.act.new.self.roster, c.self.inside.ends)
    (c.list.new.mux.roster, c.list.new.ends)
    (act_acted (g.T.Talking.awaited, g.T.Talking.talk, g.L.Port.port)
    (λ guest. g.T.Talking.asks_for guest.talk) c.self.inside.mux c.act.new.self c.self.inside.ends
    c.args.number 0 (Input c.args.event) c.act.result c.act.ensures.some c.act.ensures.kept)
    (listed_acted (g.T.Talking.awaited, g.T.Talking.talk, g.L.Port.port)
    (c.act.new.self, c.self.inside.ends) (c.list.new.mux, c.list.new.ends) c.args.number
    c.self.inside.spent c.self.inside.touched c.list.new.numbers c.list.ensures.ends))
