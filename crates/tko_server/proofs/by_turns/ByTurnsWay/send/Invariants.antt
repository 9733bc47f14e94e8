use Rattle.std.proofs.Common.{length}
use Rattle.tko_server.proofs.by_turns.ByTurnsWay.send.Given as goal

abbrev pub decreases-loop-place : goal.decreases-loop-place
decreases-loop-place g l = length l.self.workers.items
