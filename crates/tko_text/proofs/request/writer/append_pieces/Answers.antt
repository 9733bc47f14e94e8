use Rattle.std.proofs.Common.{◌≡◌, ◌++◌, OnOk, subst, ◌∙◌, rules}
use Rattle.std.specs.Fmt.{signed_decimal}
use Rattle.tko_text.proofs.PrintLemmas.{stored_in_a_row}
use Rattle.tko_text.specs.Requests.{noreply_text}
use Rattle.tko_text.proofs.request.writer.append_pieces.Goals as goal

pub returns-clause-ok : goal.returns-clause-ok
returns-clause-ok c =
    let expiry : c.as_bytes-3.result.now ≡ signed_decimal c.args.entry.now.expiry = search rules in
    let text = stored_in_a_row c.args.word.now c.args.entry.now _ _ _ _ c.args.space.now c.args.unique.now (noreply_text c.args.noreply) _
    c.as_bytes.ensures.value (c.as_bytes-2.ensures.value ∙ c.format.ensures.text) expiry
    (c.as_bytes-4.ensures.value ∙ c.format-3.ensures.text) c.as_bytes-value.ensures.value in
    subst (λ t. OnOk c.append.result (c.append.new.out.items ≡ c.args.out.now.items ++ t)) text (rw c.noreply_text.ensures at c.append.ensures.ok)
