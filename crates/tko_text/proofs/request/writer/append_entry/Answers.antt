use Rattle.std.proofs.Common.{◌≡◌, ◌++◌, OnOk, subst, ap, sym, ◌∙◌}
use Rattle.tko_text.specs.Requests.{stored_text}
use Rattle.tko_text.proofs.PrintLemmas.{stored_plain, stored_compared}
use Rattle.tko_text.proofs.request.writer.append_entry.Goals as goal

pub returns-in-None-clause-ok : goal.returns-in-None-clause-ok
returns-in-None-clause-ok c =
    let word = c.args.word.now in
    let entry = c.args.entry.now in
    let text = stored_plain word entry c.args.noreply ∙ ap (λ u. stored_text word entry u c.args.noreply) (sym c.in-None.is) in
    subst (λ t. OnOk c.append_pieces.result (c.append_pieces.new.out.items ≡ c.args.out.now.items ++ t)) text c.append_pieces.ensures.ok

pub returns-in-Some-clause-ok : goal.returns-in-Some-clause-ok
returns-in-Some-clause-ok c =
    let word = c.args.word.now in
    let entry = c.args.entry.now in
    let text = stored_compared word entry c.in-Some.unique c.args.noreply ∙ ap (λ u. stored_text word entry u c.args.noreply) (sym c.in-Some.is) in
    subst (λ t. OnOk c.append_pieces-in-Some.result (c.append_pieces-in-Some.new.out.items ≡ c.args.out.now.items ++ t)) text
    (rw (c.as_bytes.ensures.value, c.format.ensures.text) at c.append_pieces-in-Some.ensures.ok)
