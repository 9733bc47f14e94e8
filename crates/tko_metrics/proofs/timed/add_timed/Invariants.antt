use Rattle.std.proofs.Common.{◌≡◌, ◌++◌, drop, flat_map}
use Rattle.tko_metrics.specs.Pages.{times_of}
use Rattle.tko_metrics.proofs.timed.add_timed.Given as goal

abbrev pub invariant-loop-server : goal.invariant-loop-server
invariant-loop-server l =
    l.out.items ++ flat_map times_of (drop l.server-index l.servers)
    ≡ l.initial.out.items ++ flat_map times_of l.servers
