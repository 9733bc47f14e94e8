use Rattle.std.proofs.Common.{◌≡◌, ◌≤◌, ◌+◌, ◌-◌, ◌^◌, min, drop}
use Rattle.std.specs.List.{sum_by}
use Rattle.tko_metrics.proofs.times_reading.total.Given as goal

abbrev pub invariant-loop-count : goal.invariant-loop-count
invariant-loop-count l =
    let left = drop l.count-index l.counts in
    (min (l.sum + sum_by (λ number. number) left) (2 ^ 64 - 1)
    ≡ min (sum_by (λ number. number) l.counts) (2 ^ 64 - 1))
    × (l.sum ≤ 18446744073709551615)
