use Rattle.std.proofs.Common.{◌∙◌, sym, rules, []}
use Rattle.std.proofs.lemmas.List.{append-nil}
use Rattle.tko_text.proofs.PrintLemmas.{at_err, at_ok, keys_more, keys_done, begins_with, begins_more, begins_at_err}
use Rattle.tko_text.proofs.request.writer.push_keys.Goals as goal

pub returns-in_err-append-clause-err : goal.returns-in_err-append-clause-err
returns-in_err-append-clause-err c =
    at_err c.from_residual.result (begins_with _ _ [] (c.in_err-append.ensures.err ∙ sym (append-nil _)))

pub loop-key-init : goal.loop-key-init
loop-key-init c = record {
  text = search rules;
  begins = begins_with _ _ _ c.in_ok-append.ensures.ok;
}

pub returns-in_err-append-2-clause-err : goal.returns-in_err-append-2-clause-err
returns-in_err-append-2-clause-err c =
    at_err c.from_residual-in_err-append-2.result
    (begins_more _ _ _ [] c.loop-key.invariant.begins (c.in_err-append-2.ensures.err ∙ sym (append-nil _)))

pub loop-key-preserved : goal.loop-key-preserved
loop-key-preserved c = record {
  text = keys_more _ _ _ _ _ c.args.keys.now c.loop-key.key-index c.loop-key-test.true c.key-item.is c.as_bytes.ensures.value c.in_ok-append-2.ensures.ok c.loop-key.invariant.text;
  begins = begins_more _ _ _ _ c.loop-key.invariant.begins c.in_ok-append-2.ensures.ok;
}

pub returns-clause-ok : goal.returns-clause-ok
returns-clause-ok c =
    at_ok c.append-2.result (λ is. keys_done _ _ _ _ c.args.keys.now c.loop-key.key-index c.loop-key-test.false c.loop-key.invariant.text is)
    c.append-2.ensures.ok

pub returns-clause-err : goal.returns-clause-err
returns-clause-err c = begins_at_err c.append-2.result _ _ _ c.loop-key.invariant.begins c.append-2.ensures.err
