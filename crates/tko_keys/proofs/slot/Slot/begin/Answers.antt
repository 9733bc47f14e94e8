use Rattle.std.proofs.Common.{◌∙◌, ap, sym}
use Rattle.tko_keys.specs.KeysState.{KeySlot}
use Rattle.tko_keys.proofs.SlotLemmas.{slot_begun}
use Rattle.tko_keys.proofs.slot.Slot.begin.Goals as goal

pub returns-in-Ok-clause-ok : goal.returns-in-Ok-clause-ok
returns-in-Ok-clause-ok g c =
    let is = c.self.view_is ∙ c.requires.fresh in
    slot_begun c.args.self.now.key.request (ap (λ (s : KeySlot). s.key) is)
    (ap (λ (s : KeySlot). s.outbox) is)
    c.in-Ok.ensures.ok c.in-Ok.ensures.found.targets c.in-Ok.ensures.found.within
    (rw (sym c.targets_in.ensures) c.go_to.ensures.state) c.go_to.ensures.says
