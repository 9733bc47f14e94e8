use Rattle.tko_worker.proofs.ActedLemmas.{acted_on}
use Rattle.tko_worker.proofs.worker.Worker.give_up_more.Goals as goal

pub returns-then-not-give_up_one-clause-acts : goal.returns-then-not-give_up_one-clause-acts
returns-then-not-give_up_one-clause-acts g c = record {
  acted = acted_on (g.T.Talking.awaited, g.T.Talking.talk, g.L.Port.port) _ (
    c.loop.self.mux.roster,
    c.loop.self.ends,
  )
      (c.give_up_one.new.self.mux.roster, c.give_up_one.new.self.ends) c.loop.invariant.acted
      c.if-not-give_up_one.ensures.acted;
  order = c.if-not-give_up_one.ensures.order;
}

pub loop-preserved : goal.loop-preserved
loop-preserved g c = record {
  order = c.if-not-give_up_one.ensures.order;
  held = c.if-not-give_up_one.ensures.held;
  acted = acted_on (g.T.Talking.awaited, g.T.Talking.talk, g.L.Port.port) _
      (c.loop.self.mux.roster, c.loop.self.ends)
      (c.give_up_one.new.self.mux.roster, c.give_up_one.new.self.ends) c.loop.invariant.acted
      c.if-not-give_up_one.ensures.acted;
}
