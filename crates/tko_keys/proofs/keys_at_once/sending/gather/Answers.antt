use Rattle.std.proofs.Common.{◌≡◌, sym, ap, ◌∙◌, true≢false}
use Rattle.tko_keys.specs.Lines.{key_at, key_in_request}
use Rattle.tko_keys.specs.KeysState.{KeySlot}
use Rattle.tko_keys.proofs.DueLemmas.{gathered_none, gathered_short, gathered_some}
use Rattle.tko_keys.proofs.LineLemmas.{key_read}
use Rattle.tko_keys.proofs.keys_at_once.sending.gather.Goals as goal

pub returns-then-not-is_due-clause-gathered : goal.returns-then-not-is_due-clause-gathered
returns-then-not-is_due-clause-gathered c =
    gathered_none (λ some. true≢false (sym (c.is_due.ensures.1 some) ∙ c.if-not-is_due.true))

pub returns-in-Ok-clause-gathered : goal.returns-in-Ok-clause-gathered
returns-in-Ok-clause-gathered c =
    let read = key_read c.args.slots.now c.args.place c.index-slots-place.result c.requires.slot
    c.index-slots-place.is in
    let key : key_in_request c.request.result.now ≡ key_at c.args.slots.now c.args.place =
    ap key_in_request (c.request.ensures ∙ ap (λ (k : KeySlot). k.key.request) c.slot.view_is)
    ∙ read in
    gathered_some key c.in-Ok.ensures.others
    (c.fill-short.ensures.filled c.args.unique _ c.in-Ok.ensures.line)

pub returns-in-Err-clause-gathered : goal.returns-in-Err-clause-gathered
returns-in-Err-clause-gathered c = gathered_short
