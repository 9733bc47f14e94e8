use Rattle.std.proofs.Common.{arith}
use Rattle.tko_worker.proofs.ActedLemmas.{acted_on_lines, worker_acted_on}
use Rattle.tko_worker.proofs.TakenLemmas.{drained_by}
use Rattle.tko_worker.proofs.worker.Worker.pull.Goals as goal

pub returns-then-not-read-clause-drained : goal.returns-then-not-read-clause-drained
returns-then-not-read-clause-drained g c =
    drained_by (λ guest. g.T.Talking.waits_for guest.talk) c.take_all.new.self c.read.new.self
    c.args.server _ c.if-not-take_all.ensures.open c.if-not-take_all.ensures.taken
    c.if-not-read.ensures.read.none

pub returns-then-not-take_all-clause-acts : goal.returns-then-not-take_all-clause-acts
returns-then-not-take_all-clause-acts g c = record {
  acted = worker_acted_on (g.T.Talking.awaited, g.T.Talking.talk, g.L.Port.port) c.args.self.now
      c.loop.self c.take_all.new.self c.loop.invariant.acted c.if-not-take_all.ensures.acts.acted;
  order = c.if-not-take_all.ensures.acts.order;
}

pub returns-then-not-read-clause-acts : goal.returns-then-not-read-clause-acts
returns-then-not-read-clause-acts g c = record {
  acted = acted_on_lines (g.T.Talking.awaited, g.T.Talking.talk, g.L.Port.port) c.args.self.now
      c.loop.self c.take_all.new.self c.read.new.self c.loop.invariant.acted
      c.if-not-take_all.ensures.acts.acted c.if-not-read.ensures.read.clients;
  order = c.if-not-read.ensures.order;
}

pub loop-preserved : goal.loop-preserved
loop-preserved g c = record {
  order = c.if-not-read.ensures.order;
  held = c.if-not-read.ensures.held;
  room = omega (arith, c.read.auto.buffer, c.loop.invariant.room);
  acted = acted_on_lines (g.T.Talking.awaited, g.T.Talking.talk, g.L.Port.port) c.args.self.now
      c.loop.self c.take_all.new.self c.read.new.self c.loop.invariant.acted
      c.if-not-take_all.ensures.acts.acted c.if-not-read.ensures.read.clients;
}
