use Rattle.std.proofs.Common.{◌∙◌, sym}
use Rattle.tko_keys.proofs.SlotLemmas.{slot_dropped, slot_taken}
use Rattle.tko_keys.proofs.slot.Slot.go_on.Goals as goal

pub returns-in-Ok-clause-ok : goal.returns-in-Ok-clause-ok
returns-in-Ok-clause-ok g c =
    slot_taken c.args.outcome c.args.reply c.args.self.now c.self.view_is
    (sym c.replace.ensures.value ∙ c.in-Some.is) c.as_slice-targets.ensures
    c.in-Ok.ensures.ok c.go_to.ensures.state c.go_to.ensures.says

pub returns-in-Err-clause-lost : goal.returns-in-Err-clause-lost
returns-in-Err-clause-lost g c =
    slot_dropped c.args.outcome c.args.reply c.args.self.now c.self.view_is
    (sym c.replace.ensures.value ∙ c.in-Some.is) c.as_slice-targets.ensures
    c.in-Err.ensures.dropped.lost c.replace.ensures.after
