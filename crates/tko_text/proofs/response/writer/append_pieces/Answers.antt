use Rattle.std.proofs.Common.{◌++◌, None, ap, sym, append_assoc, refl, ◌∙◌}
use Rattle.tko_text.specs.Places.{parts}
use Rattle.tko_text.specs.Responses.{found_text}
use Rattle.tko_text.proofs.ResponseWriteLemmas.{on_ok_then, value_in_a_row}
use Rattle.tko_text.proofs.response.writer.append_pieces.Goals as goal

pub returns-clause-ok : goal.returns-clause-ok
returns-clause-ok c =
    let value = parts c.args.key.now c.args.flags c.args.bytes.now None in
    let cas = c.args.space.now ++ c.args.unique.now in
    on_ok_then c.append.result (λ is end ends.
    is ∙ ap (λ t. c.args.out.now.items ++ t)
    (value_in_a_row value _ _ _ c.args.space.now c.args.unique.now c.args.bytes.now c.args.last.now end c.as_bytes.ensures.value (c.as_bytes-2.ensures.value ∙ c.format.ensures.text)
    (c.as_bytes-3.ensures.value ∙ c.format-2.ensures.text) refl ends)
    ∙ sym (append_assoc c.args.out.now.items (found_text value cas) end)) c.append.ensures.ok
