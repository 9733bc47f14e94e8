use Rattle.std.proofs.Common.{rules}
use Rattle.serde_json.specs.View.{view}
use Rattle.tko_explain.proofs.ReportLemmas.{is_report}
use Rattle.tko_explain.proofs.reporting.report.Goals as goal

pub returns-in-Ok-report_of-clause-ok : goal.returns-in-Ok-report_of-clause-ok
returns-in-Ok-report_of-clause-ok c =
    is_report c.args.json.now _ _ (view c.in-Ok.root) (view c.in-Some.pools.now) _ _ (rw c.as_bytes.ensures.value at c.in_ok-config.ensures.ok)
    (search rules) (search rules) c.in-Ok-warnings_over.ensures (rw c.deref.ensures.value at c.in-Ok-report_of.ensures)
