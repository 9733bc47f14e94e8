use Rattle.std.proofs.Common.{◌≡◌, ◌+◌, ◌∙◌, ap, sym, subst, refl, arith, None, Some}
use Rattle.tko_text.specs.declared.data.DataEnd.TheVariants as end
use Rattle.tko_text.specs.declared.fault.TextFault.TheVariants as fault
use Rattle.tko_text.specs.declared.item.Item.TheVariants as item
use Rattle.tko_text.specs.declared.state.ReaderState.TheVariants as state
use Rattle.tko_text.specs.DataEnds.{EndsData}
use Rattle.tko_text.specs.States.{IsState, Steps, at, reading_of, whole_request}
use Rattle.tko_text.proofs.StepLemmas.{pending_open, pending_whole, pending_wrong_line, pending_wrong, pushed, reading_line}
use Rattle.tko_text.proofs.step.next_data.Goals as goal

pub returns-in-Open-clause-ok : goal.returns-in-Open-clause-ok
returns-in-Open-clause-ok c =
    let p = c.in-Data.pending in
    let is = subst (λ s. IsState s c.args.buffer.now) c.in-Data.is c.requires.is in
    let found = subst (λ b. EndsData b p.header.size end.Open) c.deref.ensures.value c.in-Open.ensures in
    subst (λ s. Steps (reading_of s c.args.buffer.now) None (reading_of (state.Data p) c.args.buffer.now)) (sym c.in-Data.is)
    (pending_open p c.args.buffer.now c.args.buffer.now is.1 found)

pub returns-in_ok-push-in-Whole-clause-ok : goal.returns-in_ok-push-in-Whole-clause-ok
returns-in_ok-push-in-Whole-clause-ok c =
    let p = c.in-Data.pending in
    let is = subst (λ s. IsState s c.args.buffer.now) c.in-Data.is c.requires.is in
    let found = subst (λ b. EndsData b p.header.size end.Whole) c.deref.ensures.value c.in-Whole.ensures in
    let left = pushed c.args.buffer.now c.push.new.self c.deref-in-Whole.result.now p.data.items _ (p.header.size + 1 + 1)
    c.in_ok-push-in-Whole.ensures.ok is.0 c.deref-in-Whole.ensures.value (omega arith) in
    let made : c.request_of.result ≡ whole_request (state.Data p) = c.request_of.ensures ∙ ap whole_request c.replace.ensures.value in
    subst (λ s. Steps (reading_of s c.args.buffer.now) c.request_of.result (reading_of c.replace.new.dest c.push.new.self)) (sym c.in-Data.is)
    (subst (λ f. Steps (reading_of (state.Data p) c.args.buffer.now) f (reading_of c.replace.new.dest c.push.new.self)) (sym made)
    (subst (λ to. Steps (reading_of (state.Data p) c.args.buffer.now) (whole_request (state.Data p)) to) (reading_line c.replace.new.dest c.push.new.self c.replace.ensures.after)
    (pending_whole p c.args.buffer.now c.push.new.self is.1 found left)))

pub returns-in_ok-push-in-WrongLine-clause-ok : goal.returns-in_ok-push-in-WrongLine-clause-ok
returns-in_ok-push-in-WrongLine-clause-ok c =
    let p = c.in-Data.pending in
    let is = subst (λ s. IsState s c.args.buffer.now) c.in-Data.is c.requires.is in
    let found = subst (λ b. EndsData b p.header.size (end.WrongLine c.in-WrongLine.count)) c.deref.ensures.value c.in-WrongLine.ensures in
    let left = pushed c.args.buffer.now c.push-in-WrongLine.new.self c.deref-in-WrongLine.result.now p.data.items _ c.in-WrongLine.count
    c.in_ok-push-in-WrongLine.ensures.ok is.0 c.deref-in-WrongLine.ensures.value refl in
    subst (λ s. Steps (reading_of s c.args.buffer.now) (Some (item.Fault fault.BadChunk)) (at c.push-in-WrongLine.new.self)) (sym c.in-Data.is)
    (pending_wrong_line p c.args.buffer.now c.push-in-WrongLine.new.self c.in-WrongLine.count is.1 found left)

pub returns-in_ok-push-in-Wrong-clause-ok : goal.returns-in_ok-push-in-Wrong-clause-ok
returns-in_ok-push-in-Wrong-clause-ok c =
    let p = c.in-Data.pending in
    let is = subst (λ s. IsState s c.args.buffer.now) c.in-Data.is c.requires.is in
    let found = subst (λ b. EndsData b p.header.size (end.Wrong c.in-Wrong.count)) c.deref.ensures.value c.in-Wrong.ensures in
    let left = pushed c.args.buffer.now c.push-in-Wrong.new.self c.deref-in-Wrong.result.now p.data.items _ c.in-Wrong.count
    c.in_ok-push-in-Wrong.ensures.ok is.0 c.deref-in-Wrong.ensures.value refl in
    subst (λ s. Steps (reading_of s c.args.buffer.now) (Some (item.Fault fault.BadChunk)) (reading_of c.skip_line.result c.skip_line.new.buffer)) (sym c.in-Data.is)
    (pending_wrong p c.args.buffer.now c.push-in-Wrong.new.self c.in-Wrong.count _ is.1 found left c.skip_line.ensures.reading)
