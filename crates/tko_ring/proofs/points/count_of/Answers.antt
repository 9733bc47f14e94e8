use Rattle.std.proofs.Common.{arith}
use Rattle.tko_ring.proofs.PointLemmas.{few}
use Rattle.tko_ring.proofs.points.count_of.Goals as goal

pub overflow_cast-result : goal.overflow_cast-result
overflow_cast-result c = omega (arith, c.requires.total, few c.args.servers.now c.requires.each)

pub returns-clause-few : goal.returns-clause-few
returns-clause-few c = omega (arith, c.requires.total, few c.args.servers.now c.requires.each)
