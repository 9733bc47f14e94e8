use Rattle.std.proofs.Common.{◌≡◌, false, length}
use Rattle.std.specs.List.{AllWithin}
use Rattle.tko_pipe.specs.Waiters.{has_gone}
use Rattle.tko_pipe.proofs.waiters.behind_gone.Given as goal

abbrev pub invariant-loop-place : goal.invariant-loop-place
invariant-loop-place l =
    AllWithin (λ it. has_gone it.by ≡ false) l.waiters.items l.place (length l.waiters.items)
