use Rattle.std.proofs.Common.{◌≡◌}
use Rattle.tko_pools.specs.Groups.{owning}
use Rattle.tko_pools.proofs.groups.owning.Given as goal

-- those of the places so far
abbrev pub invariant-loop-place : goal.invariant-loop-place
invariant-loop-place l = l.places.items ≡ owning l.owners l.place
