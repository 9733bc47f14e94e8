use Rattle.std.proofs.Common.{◌≡◌, ◌++◌, drop, flat_map}
use Rattle.tko_metrics.specs.Pages.{outcome_samples}
use Rattle.tko_metrics.proofs.server_page.add_outcomes.Given as goal

abbrev pub invariant-loop-server : goal.invariant-loop-server
invariant-loop-server l =
    l.out.items ++ flat_map outcome_samples (drop l.server-index l.servers)
    ≡ l.initial.out.items ++ flat_map outcome_samples l.servers
