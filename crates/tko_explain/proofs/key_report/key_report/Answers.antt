use Rattle.std.proofs.Common.{rules}
use Rattle.serde_json.specs.View.{view}
use Rattle.tko_explain.proofs.KeysTextLemmas.{tallied_text}
use Rattle.tko_explain.proofs.key_report.key_report.Goals as goal

pub returns : goal.returns
returns c = λ lines is.
    tallied_text (view c.args.root.now) (view c.in-Some.pools.now) lines c.args.tally.now
    c.in_ok-text.text.items is (search rules) c.in_ok-text.ensures
