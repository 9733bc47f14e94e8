use Rattle.std.proofs.Common.{◌≡◌, ◌++◌, drop, flat_map}
use Rattle.tko_metrics.specs.Loads.{gauge_sample}
use Rattle.tko_metrics.proofs.workers.add_gauge.Given as goal

abbrev pub invariant-loop-each : goal.invariant-loop-each
invariant-loop-each l =
    l.out.items ++ flat_map (gauge_sample l.gauge) (drop l.each-index l.workers)
    ≡ l.initial.out.items ++ flat_map (gauge_sample l.gauge) l.workers
