use Rattle.std.proofs.lemmas.Result.{IfErr-weaker}
use Rattle.tko_commands.proofs.FaultLineLemmas.{on_ok}
use Rattle.tko_cli.proofs.ServingLemmas.{has_plan, named_fails}
use Rattle.tko_cli.specs.Serving.{OnlyChecked, RanToEnd}
use Rattle.tko_cli.proofs.serving.serve.Goals as goal

pub returns-then-options-clause-ok : goal.returns-then-options-clause-ok
returns-then-options-clause-ok g c =
    on_ok c.print_valid.result c.print_valid.ensures.ok
    (OnlyChecked c.if-options.true (has_plan c.args.options.now c.in_ok-server.server c.in_ok-server.ensures.ok))

pub returns-clause-ok : goal.returns-clause-ok
returns-clause-ok g c =
    on_ok c.run_named.result c.run_named.ensures.ok (λ totals. RanToEnd c.if-options.false (record {
      server = c.in_ok-server.server;
      named = c.in_ok-server.ensures.ok;
      totals = totals;
    }))

pub returns-clause-err : goal.returns-clause-err
returns-clause-err g c =
    IfErr-weaker c.run_named.result _ _
    (λ fault fails. named_fails g.O.Outlet.takes g.O.Outlet.failures c.args.options.now c.args.output.now
    c.run_named.new.output fault
    (record {
      plan = has_plan c.args.options.now c.in_ok-server.server c.in_ok-server.ensures.ok;
      runs = c.if-options.false;
    }) fails)
    c.run_named.ensures.err
