use Rattle.std.proofs.Common.{◌≡◌, ◌++◌, map, Ok}
use Rattle.tko_reach.proofs.reaching.all_asked.Given as goal

-- the servers so far and those that are left
abbrev pub invariant-loop-server : goal.invariant-loop-server
invariant-loop-server l = map Ok l.servers.items ++ l.server-iterator.rest.items ≡ l.fn.asked.items
