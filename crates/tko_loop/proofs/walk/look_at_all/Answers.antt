use Rattle.std.proofs.Common.{◌∙◌, rules}
use Rattle.std.proofs.lemmas.List.{length-set}
use Rattle.tko_loop.proofs.WalkLemmas.{clients_next, times_next, walked_next}
use Rattle.tko_loop.proofs.walk.look_at_all.Goals as goal

pub loop-number-preserved : goal.loop-number-preserved
loop-number-preserved g c = record {
  order = c.look_at.ensures.order;
  count = length-set c.loop-number.times.items c.loop-number.number c.look_at.new.time
      ∙ c.loop-number.invariant.count;
  seen = walked_next (g.T.Talking.awaited, g.T.Talking.talk, g.L.Port.port) c.args.now c.args.idle
      c.loop-number.number c.args.times.now.items c.loop-number.times.items
      c.index_mut.result.now c.look_at.new.time c.args.clients.now.mux.roster.slots
      c.loop-number.clients.mux.roster.slots c.look_at.new.clients.mux.roster.slots
      (search rules) c.index_mut.ensures.value c.loop-number.invariant.seen
      c.loop-number.invariant.times_left c.loop-number.invariant.clients_left
      c.look_at.ensures.seen c.look_at.ensures.others;
  times_left = times_next c.loop-number.number c.args.times.now.items
      c.loop-number.times.items c.look_at.new.time c.loop-number.invariant.times_left;
  clients_left = clients_next c.loop-number.number c.args.clients.now.mux.roster.slots
      c.loop-number.clients.mux.roster.slots c.look_at.new.clients.mux.roster.slots
      c.loop-number.invariant.clients_left c.look_at.ensures.others;
}
