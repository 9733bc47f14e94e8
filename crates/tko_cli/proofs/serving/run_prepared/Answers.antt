use Rattle.tko_commands.proofs.FaultLineLemmas.{on_ok}
use Rattle.tko_cli.proofs.NoticeLemmas.{more_notices}
use Rattle.tko_cli.proofs.serving.run_prepared.Goals as goal

pub returns-in-Ok-clause-ok : goal.returns-in-Ok-clause-ok
returns-in-Ok-clause-ok g c =
    on_ok c.write_totals.result c.write_totals.ensures.ok (λ totals. record {
      ended = c.in-Ok.ended;
      ran = c.in-Ok.ensures.ended;
      middle = c.run_announced.new.output;
      ready = c.in-Ok.ensures.ok.ready;
      totals = totals;
    })

pub returns-in-Ok-clause-noted : goal.returns-in-Ok-clause-noted
returns-in-Ok-clause-noted g c =
    more_notices g.F.Outlet.takes g.F.Outlet.failures c.args.faults.now c.note_descriptors.new.faults c.report.new.faults
    c.note_descriptors.ensures c.report.ensures
