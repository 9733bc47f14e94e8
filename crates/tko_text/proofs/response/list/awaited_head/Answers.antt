use Rattle.std.proofs.Common.{◌∙◌, sym, subst, List, ℕ}
use Rattle.tko_text.specs.ResponseFaults.{value_line}
use Rattle.tko_text.specs.Responses.{IsHead}
use Rattle.tko_text.proofs.ListingLemmas.{had_before, is_awaited, none_announced}
use Rattle.tko_text.proofs.response.list.awaited_head.Goals as goal

pub returns-then-has : goal.returns-then-has
returns-then-has c =
    had_before c.args.keys.now c.args.unique c.args.had.now c.args.arguments.now c.in_ok-word.word.now _
    (sym c.of-words.ensures ∙ c.in_ok-word.ensures) (sym c.has.ensures ∙ c.if-has.true)

pub returns-in_default : goal.returns-in_default
returns-in_default c =
    none_announced c.args.keys.now c.args.unique _ c.args.arguments.now c.in_ok-word.word.now _
    (sym c.of-words.ensures ∙ c.in_ok-word.ensures)
    (c.in_default.ensures _ _ (sym c.of-words.ensures ∙ c.in_ok-word.ensures))

pub returns : goal.returns
returns c =
    let head = c.in-Some.head in
    let announced = c.in-Some.ensures _ _ (sym c.of-words.ensures ∙ c.in_ok-word.ensures) in
    let at = c.in_ok-index.ensures.1 in (
      c.in_ok-index.ensures.0,
      subst (λ (key : List ℕ). IsHead (value_line c.args.arguments.now) key head.flags head.size head.unique) (sym at) announced.1,
      is_awaited c.args.keys.now c.args.unique c.args.had.now c.in_ok-word.word.now c.in_ok-index.index head.unique
          c.in_ok-index.ensures.0 at (sym c.has.ensures ∙ c.if-has.false) announced.0,
    )
