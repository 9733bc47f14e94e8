use Rattle.std.proofs.Common.{◌≡◌, ◌≤◌, ◌+◌, ◌-◌, ◌^◌, min, drop}
use Rattle.std.specs.List.{sum_by}
use Rattle.tko_metrics.proofs.status.in_all.Given as goal

abbrev pub invariant-loop-it : goal.invariant-loop-it
invariant-loop-it l =
    let left = drop l.it-index l.numbers in
    (min (l.sum + sum_by (λ it. it.number) left) (2 ^ 64 - 1)
    ≡ min (sum_by (λ it. it.number) l.numbers) (2 ^ 64 - 1))
    × (l.sum ≤ 18446744073709551615)
