use Rattle.std.proofs.Common.{◌≡◌, ◌∙◌, ap, sym, None, Some, rules}
use Rattle.std.proofs.Common.{◌+◌}
use Rattle.tko_bytes.specs.Lines.{content}
use Rattle.tko_text.specs.Commands.{Pass}
use Rattle.tko_text.specs.Reading.{passed}
use Rattle.tko_text.proofs.StepLemmas.{read_asks, read_refused, reading_line}
use Rattle.tko_text.proofs.step.read.Goals as goal

pub returns-in-Asks-clause-ok : goal.returns-in-Asks-clause-ok
returns-in-Asks-clause-ok c =
    read_asks c.args.buffer.now _ _ c.args.len _ _ _ c.requires.line (c.content.ensures ∙ ap content c.front.ensures)
    c.in_ok-request.ensures.is c.in-Asks.is c.requires.awaits c.consume.ensures

pub returns-in-Refused-default-None-clause-ok : goal.returns-in-Refused-default-None-clause-ok
returns-in-Refused-default-None-clause-ok c =
    read_refused c.args.buffer.now _ c.consume-in-Refused-default-None.new.self c.args.len c.in_ok-request.field-0 _ None _ c.requires.line (c.content.ensures ∙ ap content c.front.ensures)
    c.in_ok-request.ensures.is (search rules) c.in_ok-request.ensures.fault c.consume-in-Refused-default-None.ensures
    (sym (reading_line c.args.state.now _ c.requires.awaits))

pub returns-in-Refused-default-Some-clause-ok : goal.returns-in-Refused-default-Some-clause-ok
returns-in-Refused-default-Some-clause-ok c =
    let size : c.from.result ≡ c.in-Refused-default-Some.size = cc in
    read_refused c.args.buffer.now _ c.consume-in-Refused-default-Some.new.self c.args.len c.in_ok-request.field-0 _ (Some c.in-Refused-default-Some.size) _ c.requires.line (c.content.ensures ∙ ap content c.front.ensures)
    c.in_ok-request.ensures.is (search rules) c.in_ok-request.ensures.fault c.consume-in-Refused-default-Some.ensures
    (c.skip.ensures.reading ∙ ap (λ n. passed (Pass (n + 2)) c.consume-in-Refused-default-Some.new.self) size)
