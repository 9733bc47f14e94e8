use Rattle.tko_text.proofs.KeyLemmas.{key_test}
use Rattle.tko_text.proofs.key.rule.is_key.Goals as goal

pub returns-clause-test : goal.returns-clause-test
returns-clause-test c = key_test _ c.args.bytes.now c.obeys_rule.ensures.0 c.obeys_rule.ensures.1
