use Rattle.std.proofs.Common.{◌≡◌, ◌++◌, drop, map}
use Rattle.tko_explain.specs.Counts.{row_count}
use Rattle.tko_explain.proofs.key_report.counts_of.Given as goal

-- the counts so far and those of the servers that are left
abbrev pub invariant-loop-server : goal.invariant-loop-server
invariant-loop-server l =
    l.counts.items ++ map (row_count l.rows l.place) (drop l.server-index l.servers)
    ≡ map (row_count l.rows l.place) l.servers
