use Rattle.tko_tracker.specs.Seated.{tracker_of}
use Rattle.tko_tracker.proofs.RetireLemmas.{IsReleased}
use Rattle.tko_tracker.proofs.calls.release_all.Given as goal

abbrev pub invariant-loop-server : goal.invariant-loop-server
invariant-loop-server l = IsReleased (tracker_of l.words) l.fn.pass l.pass l.server
