use Rattle.std.proofs.Common.{◌≡◌, ◌+◌, ◌-◌, ◌^◌, length, min, ap, arith, subst, sym, rules, refl}
use Rattle.std.proofs.Common.{◌∙◌}
use Rattle.tko_keys.specs.KeysDriven.{AreUnderWay, failed_with}
use Rattle.tko_keys.specs.KeysState.{KeysCame, key_places_in, values_ahead}
use Rattle.tko_keys.specs.Steps.{said_by}
use Rattle.tko_keys.proofs.KeyEndLemmas.{ahead_set, at_came, lost_ends, slot_out, taken_ends}
use Rattle.tko_keys.proofs.RoomLemmas.{dropped_places, out_dropped, out_taken, room_taken}
use Rattle.tko_keys.proofs.KeptLemmas.{held_set, places_of}
use Rattle.tko_keys.proofs.ReadyLemmas.{one_said}
use Rattle.tko_keys.proofs.keys_at_once.KeysAtOnce.go_on.Goals as goal

pub take-came-requires-clause-out : goal.take-came-requires-clause-out
take-came-requires-clause-out g c =
    let ready = subst (AreUnderWay c.args.config.now) (sym c.self.view_is) c.requires.ready.ready in
    let at = at_came ready c.in-Some.ensures.place in
    slot_out at c.index_mut-slot.ensures.value

pub values_ahead-self-inside-requires : goal.values_ahead-self-inside-requires
values_ahead-self-inside-requires g c =
    let ready = subst (AreUnderWay c.args.config.now) (sym c.self.view_is) c.requires.ready.ready in
    let at = at_came ready c.in-Some.ensures.place in
    ahead_set at c.take-came.new.self c.self.invariant.1 c.deref.ensures.value

pub values_ahead-self-inside-requires-in-Err : goal.values_ahead-self-inside-requires-in-Err
values_ahead-self-inside-requires-in-Err g c =
    let ready = subst (AreUnderWay c.args.config.now) (sym c.self.view_is) c.requires.ready.ready in
    let at = at_came ready c.in-Some.ensures.place in
    ahead_set at c.take-came.new.self c.self.invariant.1 c.deref-in-Err.ensures.value

pub returns-in-Ok-clause-ok : goal.returns-in-Ok-clause-ok
returns-in-Ok-clause-ok g c =
    let ready = subst (AreUnderWay c.args.config.now) (sym c.self.view_is) c.requires.ready.ready in
    let at = at_came ready c.in-Some.ensures.place in
    (taken_ends c.note_step.result c.note_step.ensures.says c.self.view_is
    ready at c.index_mut-slot.ensures.value c.next_place.ensures.same c.in-Ok.ensures.ok
    c.note_step.ensures.due (search rules)).0

pub returns-in-Ok-clause-ready : goal.returns-in-Ok-clause-ready
returns-in-Ok-clause-ready g c =
    let ready = subst (AreUnderWay c.args.config.now) (sym c.self.view_is) c.requires.ready.ready in
    let at = at_came ready c.in-Some.ensures.place in
    (taken_ends c.note_step.result c.note_step.ensures.says c.self.view_is
    ready at c.index_mut-slot.ensures.value c.next_place.ensures.same c.in-Ok.ensures.ok
    c.note_step.ensures.due (search rules)).1

pub returns-in-Err-clause-lost : goal.returns-in-Err-clause-lost
returns-in-Err-clause-lost g c =
    let ready = subst (AreUnderWay c.args.config.now) (sym c.self.view_is) c.requires.ready.ready in
    let at = at_came ready c.in-Some.ensures.place in
    (lost_ends c.self.view_is ready at c.index_mut-slot.ensures.value c.next_place.ensures.same
    c.in-Err.ensures.lost).0

pub returns-in-Err-clause-ready : goal.returns-in-Err-clause-ready
returns-in-Err-clause-ready g c =
    let ready = subst (AreUnderWay c.args.config.now) (sym c.self.view_is) c.requires.ready.ready in
    let at = at_came ready c.in-Some.ensures.place in
    (lost_ends c.self.view_is ready at c.index_mut-slot.ensures.value c.next_place.ensures.same
    c.in-Err.ensures.lost).1

pub invariant_of-self : goal.invariant_of-self
invariant_of-self g c =
    let ready = subst (AreUnderWay c.args.config.now) (sym c.self.view_is) c.requires.ready.ready in
    let at = at_came ready c.in-Some.ensures.place in
    let said = said_by c.in-Ok.step in
    let place = c.in-Some.place in
    let places = c.next_place.new.self.places in
    let ends = taken_ends c.note_step.result {failed' =
    failed_with c.take-came.new.self c.self.inside.failed} c.note_step.ensures.says
    c.self.view_is ready at c.index_mut-slot.ensures.value c.next_place.ensures.same
    c.in-Ok.ensures.ok c.note_step.ensures.due refl in
    let left : c.take-came.new.came.places ≡ c.next_place.new.self.places =
    ap (λ (k : KeysCame). k.places) c.in-Ok.ensures.ok.is.leaves.same in
    let count : c.len.result ≡ length c.take-came.new.self.outbox = search rules in
    let sum : c.saturating_add-self-inside.result ≡ min (c.self.inside.held + c.len.result)
    (2 ^ 64 - 1) = search rules in
    let held = held_set c.self.inside.slots.items place at.slot c.take-came.new.self c.len.result
    c.self.inside.held c.saturating_add-self-inside.result at.was at.is.empty c.self.invariant.3
    count sum in
    let out = out_taken c.self.inside.due.items c.self.inside.sends.items c.self.inside.came
    c.take-came.new.came place places said c.self.inside.out c.note_step.new.out
    c.self.invariant.4 at.first left
    c.note_step.ensures.out in
    let some = (room_taken c.self.inside.due.items c.self.inside.sends.items c.self.inside.came
    place places c.self.inside.out _ c.self.invariant.4 at.first c.self.invariant.5).1 in (
      c.self.invariant.0,
      c.values_ahead-self-inside.ensures ∙ ap values_ahead c.deref.ensures.value,
      places_of _ ends.1,
      held,
      out ∙ ap (λ ds. length (key_places_in ds c.self.inside.sends.items c.take-came.new.came))
          (sym c.note_step.ensures.due),
      omega (
        arith,
        c.note_step.ensures.out,
        one_said place said,
        some,
        c.self.invariant.5,
        c.note_step.ensures.room,
      ),
      omega (arith, c.note_step.ensures.out, one_said place said, some, c.self.invariant.6),
    )

pub invariant_of-self-in-Err : goal.invariant_of-self-in-Err
invariant_of-self-in-Err g c =
    let ready = subst (AreUnderWay c.args.config.now) (sym c.self.view_is) c.requires.ready.ready in
    let at = at_came ready c.in-Some.ensures.place in
    let place = c.in-Some.place in
    let places = c.next_place.new.self.places in
    let ends = lost_ends c.self.view_is ready at c.index_mut-slot.ensures.value
    c.next_place.ensures.same c.in-Err.ensures.lost in
    let left : c.take-came.new.came.places ≡ c.next_place.new.self.places =
    dropped_places c.in-Err.ensures.lost.is in
    let count : c.len.result ≡ length c.take-came.new.self.outbox = search rules in
    let sum : c.saturating_add-self-inside.result ≡ min (c.self.inside.held + c.len.result)
    (2 ^ 64 - 1) = search rules in
    let held = held_set c.self.inside.slots.items place at.slot c.take-came.new.self c.len.result
    c.self.inside.held c.saturating_add-self-inside.result at.was at.is.empty c.self.invariant.3
    count sum in (
      c.self.invariant.0,
      c.values_ahead-self-inside-in-Err.ensures ∙ ap values_ahead c.deref-in-Err.ensures.value,
      places_of _ ends.1,
      held,
      out_dropped c.self.inside.due.items c.self.inside.sends.items c.self.inside.came
          c.take-came.new.came place places c.self.inside.out c.self.invariant.4 at.first left,
      omega (arith, c.self.invariant.5),
      omega (arith, c.self.invariant.6),
    )
