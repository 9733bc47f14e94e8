use Rattle.std.proofs.Common.{take, sym, ◌∙◌}
use Rattle.std.proofs.lemmas.Option.{IfSome_then}
use Rattle.tko_text.specs.Data.{part_bytes}
use Rattle.tko_text.proofs.FirstLineLemmas.{value_whole}
use Rattle.tko_text.proofs.response.shared.shared_text.Goals as goal

pub returns : goal.returns
returns c =
    let part = c.in_ok-part.part.now in
    let before = take part.begin part.text in
    let front = c.in_ok-front.front.now in
    IfSome_then c.text_from.result c.text_from.ensures
    (λ text is end follows.
    value_whole c.args.value.now before front (part_bytes part) c.args.last.now end text
    (sym c.before-2.ensures ∙ c.in_ok-front.ensures) c.in_ok-part.ensures follows is)
