use Rattle.tko_desk.specs.Ledger.{HasEachPlace}
use Rattle.tko_desk.proofs.gathering.has_each_place.Given as goal

abbrev pub invariant-loop-place : goal.invariant-loop-place
invariant-loop-place l = HasEachPlace l.place l.shares
