use Rattle.std.proofs.Common.{◌≡◌, ◌++◌, drop, flat_map}
use Rattle.tko_metrics.specs.Pages.{mark_moment_of}
use Rattle.tko_metrics.proofs.server_page.add_moments.Given as goal

abbrev pub invariant-loop-server : goal.invariant-loop-server
invariant-loop-server l =
    l.out.items ++ flat_map mark_moment_of (drop l.server-index l.servers)
    ≡ l.initial.out.items ++ flat_map mark_moment_of l.servers
