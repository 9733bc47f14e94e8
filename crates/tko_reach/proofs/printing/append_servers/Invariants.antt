use Rattle.std.proofs.Common.{◌≡◌, ◌++◌, flat_map, drop}
use Rattle.tko_reach.specs.Printing.{reached_line}
use Rattle.tko_reach.proofs.printing.append_servers.Given as goal

-- the lines so far and those that are left
abbrev pub invariant-loop-server : goal.invariant-loop-server
invariant-loop-server l =
    l.out.items ++ flat_map reached_line (drop l.server-index l.servers)
    ≡ l.initial.out.items ++ flat_map reached_line l.servers
