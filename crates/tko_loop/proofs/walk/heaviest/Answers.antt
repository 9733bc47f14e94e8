use Rattle.tko_loop.specs.Walks.{waiting_at}
use Rattle.tko_loop.proofs.WalkLemmas.{left_next, most_next}
use Rattle.tko_loop.proofs.walk.heaviest.Goals as goal

pub loop-number-preserved : goal.loop-number-preserved
loop-number-preserved g c = record {
  left = rw (c.without-left.ensures, c.waiting_in.ensures) (
      left_next (g.T.Talking.awaited, g.T.Talking.talk, g.L.Port.port)
      c.args.clients.now.mux.roster.slots c.loop-number.number c.args.bound c.loop-number.left
      c.loop-number.invariant.left);
  most = most_next (waiting_at (g.T.Talking.awaited, g.T.Talking.talk, g.L.Port.port)
      c.args.clients.now.mux.roster.slots) c.loop-number.number c.loop-number.most
      c.heavier-most.result c.loop-number.invariant.most c.heavier-most.ensures.one
      c.heavier-most.ensures.other;
}
