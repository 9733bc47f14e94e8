use Rattle.std.proofs.Common.{◌≡◌, ap, sym, ◌∙◌, arith, length}
use Rattle.tko_text.proofs.ReadingLemmas.{IsBeyond-late, IsBeyond-none, NeedsMore-short}
use Rattle.tko_text.specs.States.{at}
use Rattle.tko_text.proofs.StepLemmas.{reading_line}
use Rattle.tko_text.proofs.step.next_line.Goals as goal

pub fail-requires : goal.fail-requires
fail-requires c =
    let same : c.in-Some.len ≡ c.in-Some-2.field-0 = cc in
    rw c.line_end.ensures.kept
    (IsBeyond-late _ _ (rw c.in-Some-2.is at c.line_end.ensures.found) (omega arith))

pub fail-requires-in-None : goal.fail-requires-in-None
fail-requires-in-None c =
    rw c.line_end.ensures.kept
    (IsBeyond-none _ (rw c.in-None.is at c.line_end.ensures.found) (omega (arith, ap length c.line_end.ensures.kept)))

pub returns-in-None-2-clause-ok : goal.returns-in-None-2-clause-ok
returns-in-None-2-clause-ok c =
    let none = rw c.in-None-2.is at c.line_end.ensures.found in (
      NeedsMore-short c.args.buffer.now none (omega (arith, ap length c.line_end.ensures.kept)),
      sym (reading_line c.args.state.now _ c.requires) ∙ ap at (c.compact.ensures ∙ c.line_end.ensures.kept),
    )
