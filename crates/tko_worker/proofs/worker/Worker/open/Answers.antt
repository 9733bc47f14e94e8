use Rattle.std.proofs.Common.{rules, refl, subst, sym}
use Rattle.tko_port.specs.declared.guest.Presence.TheVariants.{Here}
use Rattle.tko_worker.specs.Workers.{IsClientOpened, NobodyForgotten, WorkerState}
use Rattle.tko_worker.proofs.RestLemmas.{admitted_others}
use Rattle.tko_worker.proofs.ListedLemmas.{one_listed}
use Rattle.tko_worker.proofs.ActedLemmas.{acted_same, opened_acted}
use Rattle.tko_worker.proofs.worker.Worker.open.Goals as goal

pub returns-clause-order : goal.returns-clause-order
returns-clause-order g c = record {
  ready = c.list.ensures.order.ready;
  linked = c.list.ensures.order.linked;
  nobody = one_listed (g.T.Talking.awaited, g.T.Talking.talk, g.L.Port.port)
      c.self.inside.mux.roster.slots c.open.new.self.roster.slots
      c.list.new.mux.roster.slots c.in_ok-number.number c.self.inside.touched
      c.list.new.numbers c.self.inside.spent
      (subst (λ (w : WorkerState _ _ _). NobodyForgotten
      (g.T.Talking.awaited, g.T.Talking.talk, g.L.Port.port) w.mux.roster.slots w.touched w.spent)
      (sym c.self.view_is) c.requires.order.nobody)
      (admitted_others c.self.inside.mux.roster c.open.new.self.roster c.in_ok-number.number
      (record { session = record { port = c.args.port; talk = c.args.talk; presence = Here } })
      (search rules))
      c.list.ensures.others c.list.ensures.listed;
}

pub returns-clause-ok : goal.returns-clause-ok
returns-clause-ok g c =
    subst (λ (w : WorkerState _ _ _). IsClientOpened (
      g.T.Talking.awaited,
      g.T.Talking.talk,
      g.L.Port.port,
    )
    w c.args.port c.args.talk c.in_ok-number.number
    (record {
      mux = c.list.new.mux;
      touched = c.list.new.numbers;
      spent = c.self.inside.spent;
      ends = c.list.new.ends;
    })) c.self.view_is
    (record {
      mid = c.open.new.self;
      admitted = search rules;
      lines = c.open.ensures.lines.lines;
      limit = c.open.ensures.lines.limit;
      listed = c.list.ensures.ends;
      spent = refl;
    })

pub returns-clause-acted : goal.returns-clause-acted
returns-clause-acted g c =
    opened_acted (g.T.Talking.awaited, g.T.Talking.talk, g.L.Port.port) c.args.self.now _
    c.args.port
    c.args.talk c.in_ok-number.number (returns-clause-ok g c)

pub returns-in_err-number-clause-acted : goal.returns-in_err-number-clause-acted
returns-in_err-number-clause-acted g c =
    acted_same (g.T.Talking.awaited, g.T.Talking.talk, g.L.Port.port)
    (c.args.self.now.mux.roster, c.args.self.now.ends)
    (c.open.new.self.roster, c.self.inside.ends) (search rules) (search rules)
