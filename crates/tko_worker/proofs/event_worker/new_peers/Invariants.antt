use Rattle.std.proofs.Common.{◌≡◌, length}
use Rattle.tko_worker.proofs.event_worker.new_peers.Given as goal

abbrev pub invariant-loop : goal.invariant-loop
invariant-loop g l = length l.peers.items ≡ l.counter
