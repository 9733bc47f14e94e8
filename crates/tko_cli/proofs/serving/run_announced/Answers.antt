use Rattle.std.proofs.Common.{rules, sym}
use Rattle.tko_server.specs.Runs.{tracker_settings}
use Rattle.tko_cli.proofs.ServingLemmas.{never_unset, same_output, server_fails}
use Rattle.tko_cli.proofs.serving.run_announced.Goals as goal

pub returns-clause-err : goal.returns-clause-err
returns-clause-err g c =
    let run = c.run_in_mode-announcement in
    let same = sym (same_output g.O.Outlet.takes g.O.Outlet.failures _ run.result.0 run.result.1 run.ensures.announced) in
    server_fails g.O.Outlet.takes g.O.Outlet.failures _ run.result.0 _ run.result.1 (search (rules, same))
    (λ name is. never_unset (tracker_settings c.args.prepared.server) name c.requires ((run.ensures.settings name).0 is))
    run.ensures.announced
