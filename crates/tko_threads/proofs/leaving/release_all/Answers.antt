use Rattle.std.proofs.Common.{rules, ◌∙◌}
use Rattle.tko_threads.proofs.LeavingLemmas.{each_more, each_none}
use Rattle.tko_threads.proofs.leaving.release_all.Goals as goal

pub loop-server-init : goal.loop-server-init
loop-server-init g c = (search rules, each_none _)

pub loop-server-preserved : goal.loop-server-preserved
loop-server-preserved g c = (
  c.release-reply.ensures.servers ∙ c.loop-server.invariant.0,
  each_more c.loop-server.invariant.1 c.release-reply.ensures.step,
)
