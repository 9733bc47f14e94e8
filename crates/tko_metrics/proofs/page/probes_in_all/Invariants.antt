use Rattle.std.proofs.Common.{◌≡◌, ◌≤◌, ◌+◌, ◌-◌, ◌^◌, min, drop}
use Rattle.std.specs.List.{sum_by}
use Rattle.tko_metrics.proofs.page.probes_in_all.Given as goal

abbrev pub invariant-loop-server : goal.invariant-loop-server
invariant-loop-server l =
    let left = drop l.server-index l.servers in
    (min (l.probes + sum_by (λ server. server.reading.probes) left) (2 ^ 64 - 1)
    ≡ min (sum_by (λ server. server.reading.probes) l.servers) (2 ^ 64 - 1))
    × (l.probes ≤ 18446744073709551615)
