use Rattle.tko_threads.proofs.WorkLemmas.{works_none, works_round, works_session}
use Rattle.tko_threads.proofs.working.serve_clients.Goals as goal

pub loop-init : goal.loop-init
loop-init g c = (tt, tt, c.requires.reach, works_none)

pub loop-preserved-in-Connection : goal.loop-preserved-in-Connection
loop-preserved-in-Connection g c = (
  tt,
  tt,
  c.settle.ensures.reach,
  works_session c.loop.invariant.3 c.serve.ensures.session.1 c.settle.ensures.settled.1,
)

pub loop-preserved : goal.loop-preserved
loop-preserved g c = (
  tt,
  tt,
  c.round.ensures.reach,
  works_round c.loop.invariant.3 c.round.ensures.round.1,
)
