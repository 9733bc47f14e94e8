use Rattle.std.proofs.Common.{◌≡◌, Some, ap, subst, rules, ◌∙◌}
use Rattle.tko_keys.specs.KeysState.{KeySlot}
use Rattle.tko_keys.specs.Lines.{key_in_request, key_of, part_for_key}
use Rattle.tko_keys.specs.SlotCalls.{IsLeftForOthers}
use Rattle.tko_keys.proofs.SlotLemmas.{lost_so, part_dropped, part_stopped}
use Rattle.tko_keys.proofs.slot.Slot.take.Goals as goal

pub returns-in-Some-clause-lost : goal.returns-in-Some-clause-lost
returns-in-Some-clause-lost g c =
    let key : key_in_request c.request.result.now ≡ key_of c.args.self.now =
    ap key_in_request (c.request.ensures
    ∙ ap (λ (k : KeySlot). k.key.request) c.self.view_is) in
    let is_part = subst (λ k. part_for_key c.args.came.now k ≡ Some c.in-Some.part) key
    c.in-Some.ensures.value in
    let leaves = subst (λ k. IsLeftForOthers k c.args.came.now c.part.new.self) key
    c.in-Some.ensures.left in
    lost_so c.go_on.result c.go_on.ensures.lost
    (λ attempts on. part_dropped c.requires.out c.reply-reply.ensures is_part leaves on)

pub returns-in-None-clause-lost : goal.returns-in-None-clause-lost
returns-in-None-clause-lost g c =
    part_stopped c.requires.out (search rules) c.stop.ensures.attempts c.stop.ensures.state
