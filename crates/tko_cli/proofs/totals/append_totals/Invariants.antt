use Rattle.std.proofs.Common.{◌≡◌, ◌++◌, drop}
use Rattle.tko_cli.specs.Totals.{totals_of}
use Rattle.tko_cli.proofs.totals.append_totals.Given as goal

-- the lines so far and those of the kinds that are left
abbrev pub invariant-loop-kind : goal.invariant-loop-kind
invariant-loop-kind l =
    l.out.items ++ totals_of (drop l.kind-index l.kinds) l.counts ≡ l.initial.out.items ++ totals_of l.kinds l.counts
