use Rattle.std.proofs.Common.{◌∙◌, ap, arith}
use Rattle.tko_text.specs.ResponseLines.{split_of}
use Rattle.tko_text.proofs.ResponseLineLemmas.{line_found}
use Rattle.tko_text.proofs.response.line.split_line.Goals as goal

pub returns-in-Some : goal.returns-in-Some
returns-in-Some c =
    line_found c.args.bytes.now c.in-Some.line.now c.in-Some.rest.now _ c.in-Some.ensures (omega arith)
    (c.first_word.ensures ∙ ap split_of c.content.ensures)
