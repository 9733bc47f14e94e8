use Rattle.std.proofs.Common.{◌≡◌, ◌+◌, ◌++◌, drop}
use Rattle.tko_runs.specs.Prints.{order_text}
use Rattle.tko_runs.proofs.printing.summary.append_order.Given as goal

-- the lines so far and those of the calls that are left
abbrev pub invariant-loop-place : goal.invariant-loop-place
invariant-loop-place l =
    l.out.items ++ order_text (l.place + 1) (drop l.place l.points) ≡ l.initial.out.items ++ order_text 1 l.points
