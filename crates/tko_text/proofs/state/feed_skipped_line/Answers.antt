use Rattle.std.proofs.Common.{◌+◌, ap, sym, ◌∙◌, refl}
use Rattle.tko_text.specs.States.{at}
use Rattle.tko_text.proofs.SkipLemmas.{skipped_some, skipped_none}
use Rattle.tko_text.proofs.StepLemmas.{pushed}
use Rattle.tko_text.proofs.state.feed_skipped_line.Goals as goal

pub returns-in_ok-push-in-Some-clause-ok : goal.returns-in_ok-push-in-Some-clause-ok
returns-in_ok-push-in-Some-clause-ok c =
    ap at (pushed c.args.buffer.now c.push.new.self c.args.piece.now c.args.piece.now (c.in-Some.end + 1) (c.in-Some.end + 1)
    c.in_ok-push-in-Some.ensures.ok c.requires refl refl)
    ∙ sym (skipped_some c.args.piece.now c.in-Some.end c.in-Some.ensures)

pub returns-in-None-clause-ok : goal.returns-in-None-clause-ok
returns-in-None-clause-ok c = sym (skipped_none c.args.piece.now c.in-None.ensures)
