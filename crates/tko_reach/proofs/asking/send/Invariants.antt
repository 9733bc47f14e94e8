use Rattle.std.proofs.Common.{◌≡◌, ◌≤◌, ◌-◌, length}
use Rattle.tko_links.proofs.SendLemmas.{SentSoFar}
use Rattle.tko_reach.proofs.asking.send.Given as goal

abbrev pub invariant-loop-at : goal.invariant-loop-at
invariant-loop-at g l =
    (l.at ≤ length l.text) × (g.W.Wire.servers l.wire ≡ g.W.Wire.servers l.fn.wire)
    × SentSoFar g.W.Wire.servers g.W.Wire.is_connected g.W.Wire.failures g.W.Wire.steps l.server
    l.text l.fn.wire l.at l.wire

abbrev pub decreases-loop-at : goal.decreases-loop-at
decreases-loop-at g l = length l.text - l.at
