use Rattle.std.proofs.Common.{◌≤◌, length}
use Rattle.tko_links.specs.Incoming.{arrival}
use Rattle.tko_links.proofs.ReceiveLemmas.{GotSoFar}
use Rattle.tko_links.proofs.exchanging.receive.Given as goal

abbrev pub invariant-loop : goal.invariant-loop
invariant-loop g l = record {
  got : GotSoFar g.W.Wire.servers g.W.Wire.is_connected g.W.Wire.failures g.W.Wire.steps l.server
      l.request l.fn.wire
      (arrival l.incoming) l.wire;
  looked : l.incoming.looked ≤ length l.incoming.buffer;
}
