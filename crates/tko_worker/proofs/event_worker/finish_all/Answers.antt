use Rattle.std.proofs.Common.{rules, ◌∙◌}
use Rattle.std.proofs.lemmas.List.{length-set}
use Rattle.tko_worker.proofs.AheadLemmas.{ahead_next, written_next}
use Rattle.tko_worker.proofs.ChangesLemmas.{lines_on}
use Rattle.tko_worker.proofs.event_worker.finish_all.Goals as goal

pub loop-server-preserved : goal.loop-server-preserved
loop-server-preserved g c = record {
  order = c.finish_one-its.ensures.order;
  clients = lines_on c.loop-server.invariant.clients c.finish_one-its.ensures.clients;
  count = length-set c.loop-server.peers.items c.loop-server.server c.finish_one-its.new.peer
      ∙ c.loop-server.invariant.count;
  written = written_next g.L.Port.port c.loop-server.server c.loop-server.clients.mux.lines
      c.finish_one-its.new.clients.mux.lines c.loop-server.peers.items c.finish_one-its.new.peer
      (search rules) c.finish_one-its.ensures.others c.loop-server.invariant.written
      c.finish_one-its.ensures.wrote;
  ahead = ahead_next g.L.Port.port c.loop-server.server c.loop-server.clients.mux.lines
      c.finish_one-its.new.clients.mux.lines c.loop-server.peers.items c.finish_one-its.new.peer
      (search rules) c.finish_one-its.ensures.others c.args.now c.loop-server.ahead
      c.finish_one-its.result c.and-ahead.result c.loop-server.invariant.ahead
      c.finish_one-its.ensures.ahead c.and-ahead.ensures.rests c.and-ahead.ensures.due
      c.and-ahead.ensures.wants;
}
