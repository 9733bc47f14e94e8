use Rattle.tko_reach.proofs.HearLemmas.{HeardSoFar}
use Rattle.tko_reach.proofs.hearing.hear.Given as goal

abbrev pub invariant-loop : goal.invariant-loop
invariant-loop g l = HeardSoFar g.W.Wire.servers g.W.Wire.is_connected g.W.Wire.failures
    g.W.Wire.steps l.server l.fn.wire l.bytes.items l.wire
