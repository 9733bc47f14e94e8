use Rattle.std.proofs.Common.{◌≡◌, ◌++◌, drop}
use Rattle.tko_runs.specs.Prints.{run_servers_text}
use Rattle.tko_runs.proofs.printing.summary.append_servers.Given as goal

-- the lines so far and those of the servers that are left
abbrev pub invariant-loop-place : goal.invariant-loop-place
invariant-loop-place l =
    l.out.items ++ run_servers_text l.place (drop l.place l.servers) ≡ l.initial.out.items ++ run_servers_text 0 l.servers
