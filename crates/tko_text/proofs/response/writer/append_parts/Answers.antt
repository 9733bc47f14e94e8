use Rattle.std.proofs.Common.{◌≡◌, ◌++◌, None, OnOk, sym, subst}
use Rattle.std.specs.Prelude.{List, ℕ, codes}
use Rattle.tko_text.specs.Places.{parts}
use Rattle.tko_text.specs.Responses.{cas_text, found_text}
use Rattle.tko_text.proofs.response.writer.append_parts.Goals as goal

pub returns-in-None-clause-ok : goal.returns-in-None-clause-ok
returns-in-None-clause-ok c =
    let value = parts c.args.key.now c.args.flags c.args.bytes.now None in
    let old = c.args.out.now.items in
    subst (λ u. OnOk c.append_pieces.result ((end : List ℕ) → c.args.last.now ≡ codes "\r\n" ++ end
    → c.append_pieces.new.out.items ≡ old ++ found_text value (cas_text u) ++ end)) (sym c.in-None.is)
    c.append_pieces.ensures.ok

pub returns-in-Some-clause-ok : goal.returns-in-Some-clause-ok
returns-in-Some-clause-ok c =
    let value = parts c.args.key.now c.args.flags c.args.bytes.now None in
    let old = c.args.out.now.items in
    subst (λ u. OnOk c.append_pieces-in-Some.result ((end : List ℕ) → c.args.last.now ≡ codes "\r\n" ++ end
    → c.append_pieces-in-Some.new.out.items ≡ old ++ found_text value (cas_text u) ++ end)) (sym c.in-Some.is)
    (rw (c.as_bytes.ensures.value, c.format.ensures.text) at c.append_pieces-in-Some.ensures.ok)
