use Rattle.std.proofs.Common.{◌≡◌, ◌≤◌, ◌+◌, ◌-◌, ◌^◌, min, drop}
use Rattle.std.specs.List.{sum_by}
use Rattle.tko_metrics.specs.Readings.{server_number}
use Rattle.tko_metrics.proofs.reading.total.Given as goal

abbrev pub invariant-loop-part : goal.invariant-loop-part
invariant-loop-part l =
    let left = drop l.part-index l.parts in
    (min (l.sum + sum_by (server_number l.which) left) (2 ^ 64 - 1)
    ≡ min (sum_by (server_number l.which) l.parts) (2 ^ 64 - 1))
    × (l.sum ≤ 18446744073709551615)
