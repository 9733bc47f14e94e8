use Rattle.std.proofs.Common.{◌≢◌}
use Rattle.std.specs.List.{AllWithin}
use Rattle.tko_pipe.proofs.waiters.is_alone.Given as goal

abbrev pub invariant-loop-earlier : goal.invariant-loop-earlier
invariant-loop-earlier l = AllWithin (λ it. it.by ≢ l.by) l.waiters.items 0 l.earlier
