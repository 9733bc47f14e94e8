use Rattle.std.proofs.Common.{◌≡◌, map}
use Rattle.tko_pools.specs.Groups.{owners_of}
use Rattle.tko_pools.proofs.groups.owners_of.Given as goal

-- the owners of the servers so far
abbrev pub invariant-loop-server : goal.invariant-loop-server
invariant-loop-server l =
    l.owners.items ≡ owners_of (map (λ child. child.servers) l.children) l.server
