use Rattle.std.proofs.Common.{◌≡◌, ◌++◌, drop, flat_map}
use Rattle.tko_metrics.specs.Pages.{number_sample}
use Rattle.tko_metrics.proofs.server_page.add_numbers.Given as goal

abbrev pub invariant-loop-server : goal.invariant-loop-server
invariant-loop-server l =
    l.out.items ++ flat_map (number_sample l.metric l.which) (drop l.server-index l.servers)
    ≡ l.initial.out.items ++ flat_map (number_sample l.metric l.which) l.servers
