use Rattle.std.proofs.Common.{◌≡◌, ◌++◌, drop, flat_map}
use Rattle.tko_status.specs.Pages.{worker_row}
use Rattle.tko_status.proofs.worker_part.add_rows.Given as goal

abbrev pub invariant-loop-each : goal.invariant-loop-each
invariant-loop-each l =
    l.out.items ++ flat_map worker_row (drop l.each-index l.workers)
    ≡ l.initial.out.items ++ flat_map worker_row l.workers
