use Rattle.std.proofs.Common.{rules, arith}
use Rattle.tko_worker.proofs.ActedLemmas.{acted_on}
use Rattle.tko_worker.proofs.TakingLemmas.{taken_next}
use Rattle.tko_worker.proofs.event_worker.serve_all.Goals as goal

pub loop-server-preserved : goal.loop-server-preserved
loop-server-preserved g c = record {
  order = c.serve_server-its.ensures.acts.order;
  count = search rules;
  room = omega (arith, c.serve_server-its.auto.buffer, c.loop-server.invariant.room);
  acted = acted_on (g.T.Talking.awaited, g.T.Talking.talk, g.L.Port.port) _
      (c.loop-server.clients.mux.roster, c.loop-server.clients.ends)
      (c.serve_server-its.new.self.mux.roster, c.serve_server-its.new.self.ends)
      c.loop-server.invariant.acted c.serve_server-its.ensures.acts.acted;
  taken = taken_next (g.T.Talking.awaited, g.T.Talking.talk, g.L.Port.port)
      (λ guest. g.T.Talking.waits_for guest.talk) c.args.awake.now c.loop-server.server c.args.moments.judged _
      c.loop-server.all c.serve_server-its.result _ _
      c.loop-server.clients c.serve_server-its.new.self (search rules) c.loop-server.invariant.acted
      c.serve_server-its.ensures.acts.acted c.loop-server.invariant.taken
      c.serve_server-its.ensures.done;
}
