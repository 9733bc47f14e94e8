use Rattle.std.proofs.Common.{◌+◌, ap, sym, ◌∙◌, arith, drop}
use Rattle.tko_text.specs.States.{at}
use Rattle.tko_text.proofs.SkipLemmas.{skipped_some, skipped_none}
use Rattle.tko_text.proofs.state.skip_line.Goals as goal

pub overflow_add-end : goal.overflow_add-end
overflow_add-end c = omega (arith, c.in-Some.ensures.found.0.high, c.in-Some.ensures.small)

pub returns-in-Some-clause-reading : goal.returns-in-Some-clause-reading
returns-in-Some-clause-reading c =
    ap at (c.consume.ensures ∙ ap (λ xs. drop (c.in-Some.end + 1) xs) c.in-Some.ensures.kept)
    ∙ sym (skipped_some c.args.buffer.now c.in-Some.end c.in-Some.ensures.found)

pub returns-in-None-clause-reading : goal.returns-in-None-clause-reading
returns-in-None-clause-reading c = sym (skipped_none c.args.buffer.now c.in-None.ensures.found)
