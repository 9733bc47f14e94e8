use Rattle.std.proofs.Common.{◌≡◌, ◌++◌, map, take, drop}
use Rattle.tko_prober.specs.Probers.{begun_slot}
use Rattle.tko_prober.proofs.probers.begin_all.Given as goal

abbrev pub invariant-loop-place : goal.invariant-loop-place
invariant-loop-place l =
    take l.place l.slots ++ map (begun_slot l.delays l.moment) (drop l.place l.slots)
    ≡ map (begun_slot l.delays l.moment) l.fn.slots
