use Rattle.std.proofs.Common.{rules}
use Rattle.serde_json.specs.View.{view}
use Rattle.tko_explain.proofs.ReportLemmas.{is_warned}
use Rattle.tko_explain.proofs.reporting.warnings_of.Goals as goal

pub returns-in-Ok-warnings_over-clause-ok : goal.returns-in-Ok-warnings_over-clause-ok
returns-in-Ok-warnings_over-clause-ok c =
    is_warned c.args.json.now _ (view c.in-Ok.root) (view c.in-Some.pools.now) _ (rw c.as_bytes.ensures.value at c.in_ok-config.ensures.ok)
    (search rules) (search rules) c.in-Ok-warnings_over.ensures
