use Rattle.std.proofs.Common.{◌≡◌, ◌++◌, drop}
use Rattle.tko_reach.specs.Printing.{reach_counts}
use Rattle.tko_reach.proofs.printing.append_counts.Given as goal

-- the counts so far and those that are left
abbrev pub invariant-loop-kind : goal.invariant-loop-kind
invariant-loop-kind l =
    l.out.items ++ reach_counts l.servers (drop l.kind-index l.kinds)
    ≡ l.initial.out.items ++ reach_counts l.servers l.kinds
