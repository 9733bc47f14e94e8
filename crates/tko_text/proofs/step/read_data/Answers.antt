use Rattle.std.proofs.Common.{◌∙◌, ◌+◌, ◌++◌, ap, subst, arith, Some, take, take-append-drop}
use Rattle.tko_text.specs.declared.data.DataEnd.TheVariants as end
use Rattle.tko_text.specs.declared.fault.TextFault.TheVariants as fault
use Rattle.tko_text.specs.declared.item.Item.TheVariants as item
use Rattle.tko_text.specs.DataEnds.{EndsData}
use Rattle.tko_text.specs.Parsed.{request_with}
use Rattle.tko_text.specs.States.{Steps, at}
use Rattle.tko_text.proofs.StepLemmas.{data_open, data_whole, data_wrong_line, data_wrong, reading_line, left_after}
use Rattle.tko_text.proofs.step.read_data.Goals as goal

pub returns-in_ok-pending_of-in-Open-clause-ok : goal.returns-in_ok-pending_of-in-Open-clause-ok
returns-in_ok-pending_of-in-Open-clause-ok c =
    let parts = c.in_ok-pending_of-in-Open.ensures.pending in
    let found = subst (λ b. EndsData b c.args.header.size end.Open) c.after-bytes.ensures c.in-Open.ensures in (
      data_open c.args.buffer.now c.args.len c.args.header.size (request_with c.args.header) c.requires.line c.requires.header.parsed_is found,
      ap at (ap (λ xs. xs ++ c.in_ok-pending_of-in-Open.field-0.data.items) parts.line_is ∙ ap (λ xs. take (c.args.len + 1) c.args.buffer.now ++ xs) parts.rest
          ∙ take-append-drop (c.args.len + 1) c.args.buffer.now),
    )

pub returns-in_ok-from_slice-in-Whole-clause-ok : goal.returns-in_ok-from_slice-in-Whole-clause-ok
returns-in_ok-from_slice-in-Whole-clause-ok c =
    let found = subst (λ b. EndsData b c.args.header.size end.Whole) c.after-bytes.ensures c.in-Whole.ensures in
    subst (λ to. Steps (at c.args.buffer.now) (Some (item.Request c.request_with.result)) to) (reading_line c.args.state.now _ c.requires.awaits)
    (data_whole c.args.buffer.now c.args.len c.args.header.size (request_with c.args.header) c.requires.line c.requires.header.parsed_is _ _ found
    (c.request_with.ensures ∙ ap (request_with c.args.header) (c.new-data.ensures ∙ c.in_ok-from_slice-in-Whole.ensures.items ∙ ap (λ xs. take c.args.header.size xs) c.after-bytes.ensures))
    (c.consume.ensures ∙ left_after c.args.buffer.now c.args.len (c.args.header.size + 1 + 1) _ (omega arith)))

pub returns-in-WrongLine-clause-ok : goal.returns-in-WrongLine-clause-ok
returns-in-WrongLine-clause-ok c =
    let found = subst (λ b. EndsData b c.args.header.size (end.WrongLine c.in-WrongLine.count)) c.after-bytes.ensures c.in-WrongLine.ensures in
    subst (λ to. Steps (at c.args.buffer.now) (Some (item.Fault fault.BadChunk)) to) (reading_line c.args.state.now _ c.requires.awaits)
    (data_wrong_line c.args.buffer.now c.args.len c.args.header.size (request_with c.args.header) c.requires.line c.requires.header.parsed_is c.in-WrongLine.count _ found
    (c.consume-in-WrongLine.ensures ∙ left_after c.args.buffer.now c.args.len c.in-WrongLine.count _ (omega arith)))

pub returns-in-Wrong-clause-ok : goal.returns-in-Wrong-clause-ok
returns-in-Wrong-clause-ok c =
    let found = subst (λ b. EndsData b c.args.header.size (end.Wrong c.in-Wrong.count)) c.after-bytes.ensures c.in-Wrong.ensures in
    data_wrong c.args.buffer.now c.args.len c.args.header.size (request_with c.args.header) c.requires.line c.requires.header.parsed_is c.in-Wrong.count _ _ found
    (c.consume-in-Wrong.ensures ∙ left_after c.args.buffer.now c.args.len c.in-Wrong.count _ (omega arith)) c.skip_line.ensures.reading
