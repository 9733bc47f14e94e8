use Rattle.tko_ring.proofs.DigestLemmas.{scale_fits}
use Rattle.tko_ring.proofs.digests.scale_of.Goals as goal

pub returns-clause-fits : goal.returns-clause-fits
returns-clause-fits c = scale_fits c.args.weight c.args.total c.binary_digits.result c.binary_digits.ensures.least
