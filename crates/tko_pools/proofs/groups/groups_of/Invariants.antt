use Rattle.std.proofs.Common.{◌≡◌, ◌++◌, drop}
use Rattle.tko_pools.specs.Groups.{groups_of}
use Rattle.tko_pools.proofs.groups.groups_of.Given as goal

-- the groups so far, and those of the owners that are left
abbrev pub invariant-loop-owner : goal.invariant-loop-owner
invariant-loop-owner l =
    l.groups.items ++ groups_of (drop l.owner-index l.owners) l.places ≡ groups_of l.owners l.places
