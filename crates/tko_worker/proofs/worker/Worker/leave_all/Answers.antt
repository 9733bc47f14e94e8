use Rattle.tko_worker.proofs.ActedLemmas.{acted_on}
use Rattle.tko_worker.proofs.worker.Worker.leave_all.Goals as goal

pub returns-then-not-leave_one-clause-acted : goal.returns-then-not-leave_one-clause-acted
returns-then-not-leave_one-clause-acted g c =
    acted_on (g.T.Talking.awaited, g.T.Talking.talk, g.L.Port.port) _ (
      c.loop.self.mux.roster,
      c.loop.self.ends,
    )
    (c.leave_one.new.self.mux.roster, c.leave_one.new.self.ends) c.loop.invariant.acted
    c.if-not-leave_one.ensures.acted

pub loop-preserved : goal.loop-preserved
loop-preserved g c = record {
  order = c.if-not-leave_one.ensures.order;
  gone = c.if-not-leave_one.ensures.gone;
  acted = acted_on (g.T.Talking.awaited, g.T.Talking.talk, g.L.Port.port) _
      (c.loop.self.mux.roster, c.loop.self.ends)
      (c.leave_one.new.self.mux.roster, c.leave_one.new.self.ends) c.loop.invariant.acted
      c.if-not-leave_one.ensures.acted;
}
