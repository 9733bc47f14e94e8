use Rattle.std.proofs.Common.{◌≡◌, ◌+◌, ◌-◌, ◌^◌, ◌∷◌, ◌++◌, [], List, length, min, ap, arith}
use Rattle.std.proofs.Common.{subst, sym, rules, refl, ◌∙◌}
use Rattle.tko_text.specs.declared.request.Request.{Request}
use Rattle.tko_route.specs.Routing.{GoesOn}
use Rattle.tko_reply.specs.Cuts.{KeyLost}
use Rattle.tko_keys.specs.KeysDriven.{AreUnderWay, due_by, failed_with}
use Rattle.tko_keys.specs.KeysState.{KeySlot, KeysState, MayBegin, key_places_in, values_ahead}
use Rattle.tko_keys.specs.Steps.{said_by}
use Rattle.tko_keys.proofs.KeyEndLemmas.{ahead_push, begin_lost_ends, begun_ready}
use Rattle.tko_keys.proofs.KeptLemmas.{held_push, places_of, said_out}
use Rattle.tko_keys.proofs.ReadyLemmas.{one_said}
use Rattle.tko_keys.proofs.keys_at_once.KeysAtOnce.begin.Goals as goal

pub values_ahead-self-inside-requires : goal.values_ahead-self-inside-requires
values_ahead-self-inside-requires g c =
    let slots : c.deref.result.now ≡ c.self.inside.slots.items ++ c.begin-came.new.self ∷ [] =
    c.deref.ensures.value ∙ c.push_reserved.ensures.items
    ∙ ap (λ (xs : List KeySlot). xs ++ c.begin-came.new.self ∷ []) c.make_room.ensures.slots in
    ahead_push c.self.inside.slots.items _ _ c.begin-came.new.self c.self.invariant.1 slots

pub values_ahead-self-inside-requires-in-Err : goal.values_ahead-self-inside-requires-in-Err
values_ahead-self-inside-requires-in-Err g c =
    let slots : c.deref-in-Err.result.now ≡ c.self.inside.slots.items ++ c.begin-came.new.self
    ∷ [] =
    c.deref-in-Err.ensures.value ∙ c.push_reserved-in-Err.ensures.items
    ∙ ap (λ (xs : List KeySlot). xs ++ c.begin-came.new.self ∷ []) c.make_room.ensures.slots in
    ahead_push c.self.inside.slots.items _ _ c.begin-came.new.self c.self.invariant.1 slots

pub returns-in-Ok-came-clause-ready : goal.returns-in-Ok-came-clause-ready
returns-in-Ok-came-clause-ready g c =
    let ready = subst (AreUnderWay c.args.config.now) (sym c.self.view_is) c.requires.ready.ready in
    let may = subst MayBegin (sym c.self.view_is) c.requires.ready.may in
    let place : c.len-place.result ≡ length c.self.inside.slots.items = search rules in
    begun_ready c.begin-came.new.self ready may c.in-Ok-came.ensures.ok
    (c.push_reserved.ensures.items
    ∙ ap (λ (xs : List KeySlot). xs ++ c.begin-came.new.self ∷ []) c.make_room.ensures.slots)
    (c.note_step.ensures.due
    ∙ ap (λ ds. ds ++ due_by c.len-place.result (said_by c.in-Ok-came.step))
    c.make_room.ensures.due.0
    ∙ ap (λ n. c.self.inside.due.items ++ due_by n (said_by c.in-Ok-came.step)) place)
    c.make_room.ensures.sends.0 refl refl refl (search rules)

pub returns-in-Err-clause-lost : goal.returns-in-Err-clause-lost
returns-in-Err-clause-lost g c =
    let ready = subst (AreUnderWay c.args.config.now) (sym c.self.view_is) c.requires.ready.ready in
    let may = subst MayBegin (sym c.self.view_is) c.requires.ready.may in
    let on = subst (λ (r : Request). GoesOn g.H.Health.steps c.args.health.now
    (λ calls. KeyLost c.args.config.now r calls c.in-Err.dropped) c.begin-came.new.health)
    (ap (λ (k : KeySlot). k.key.request) c.of-slot.ensures) c.in-Err.ensures.lost in
    (begin_lost_ends c.begin-came.new.self c.self.view_is ready may c.next_request-request.ensures.takes
    on c.in-Err.ensures.err
    (c.push_reserved-in-Err.ensures.items
    ∙ ap (λ (xs : List KeySlot). xs ++ c.begin-came.new.self ∷ []) c.make_room.ensures.slots)
    c.make_room.ensures.due.0 c.make_room.ensures.sends.0).0

pub returns-in-Err-clause-ready : goal.returns-in-Err-clause-ready
returns-in-Err-clause-ready g c =
    let ready = subst (AreUnderWay c.args.config.now) (sym c.self.view_is) c.requires.ready.ready in
    let may = subst MayBegin (sym c.self.view_is) c.requires.ready.may in
    let on = subst (λ (r : Request). GoesOn g.H.Health.steps c.args.health.now
    (λ calls. KeyLost c.args.config.now r calls c.in-Err.dropped) c.begin-came.new.health)
    (ap (λ (k : KeySlot). k.key.request) c.of-slot.ensures) c.in-Err.ensures.lost in
    (begin_lost_ends c.begin-came.new.self c.self.view_is ready may c.next_request-request.ensures.takes
    on c.in-Err.ensures.err
    (c.push_reserved-in-Err.ensures.items
    ∙ ap (λ (xs : List KeySlot). xs ++ c.begin-came.new.self ∷ []) c.make_room.ensures.slots)
    c.make_room.ensures.due.0 c.make_room.ensures.sends.0).1

pub invariant_of-self-in-Ok-came : goal.invariant_of-self-in-Ok-came
invariant_of-self-in-Ok-came g c =
    let ready = subst (AreUnderWay c.args.config.now) (sym c.self.view_is) c.requires.ready.ready in
    let may = subst MayBegin (sym c.self.view_is) c.requires.ready.may in
    let said = said_by c.in-Ok-came.step in
    let place : c.len-place.result ≡ length c.self.inside.slots.items = search rules in
    let slots : c.push_reserved.new.self.items ≡ c.self.inside.slots.items ++ c.begin-came.new.self
    ∷ [] =
    c.push_reserved.ensures.items
    ∙ ap (λ (xs : List KeySlot). xs ++ c.begin-came.new.self ∷ []) c.make_room.ensures.slots in
    let due : c.note_step.new.due.items ≡ c.self.inside.due.items
    ++ due_by c.len-place.result said =
    c.note_step.ensures.due ∙ ap (λ ds. ds ++ due_by c.len-place.result said)
    c.make_room.ensures.due.0 in
    let New : KeysState = record {
      unique = c.self.inside.unique;
      left = [];
      slots = c.push_reserved.new.self.items;
      due = c.note_step.new.due.items;
      sends = c.make_room.new.sends.items;
      came = c.self.inside.came;
      plan = c.self.inside.plan;
      failed = failed_with c.begin-came.new.self c.self.inside.failed;
      lost = c.self.inside.lost;
    } in
    let after : AreUnderWay c.args.config.now New =
    begun_ready {new = New} c.begin-came.new.self ready may c.in-Ok-came.ensures.ok slots
    (due ∙ ap (λ n. c.self.inside.due.items ++ due_by n said) place) c.make_room.ensures.sends.0 refl
    refl refl refl in
    let all : length (key_places_in c.note_step.new.due.items c.make_room.new.sends.items
    c.self.inside.came)
    ≡ length (key_places_in c.self.inside.due.items c.self.inside.sends.items c.self.inside.came) +
    length (due_by c.len-place.result said) =
    ap (λ ds. length (key_places_in ds c.make_room.new.sends.items c.self.inside.came)) due
    ∙ ap (λ ss. length (key_places_in
    (c.self.inside.due.items ++ due_by c.len-place.result said) ss c.self.inside.came))
    c.make_room.ensures.sends.0
    ∙ said_out c.self.inside.due.items c.self.inside.sends.items c.self.inside.came
    c.len-place.result said in
    let count : c.len.result ≡ length c.begin-came.new.self.outbox = search rules in
    let sum : c.saturating_add-self-inside.result ≡ min (c.self.inside.held + c.len.result)
    (2 ^ 64 - 1) = search rules in (
      c.next_request-request.ensures.alone,
      c.values_ahead-self-inside.ensures ∙ ap values_ahead c.deref.ensures.value,
      places_of New after,
      held_push c.self.inside.slots.items c.push_reserved.new.self.items c.begin-came.new.self
          c.len.result c.self.inside.held c.saturating_add-self-inside.result slots
          c.self.invariant.3 count sum,
      c.note_step.ensures.out ∙ ap (λ n. n + length (due_by c.len-place.result said))
          c.self.invariant.4 ∙ sym all,
      omega (
        arith,
        c.note_step.ensures.out,
        one_said c.len-place.result said,
        c.note_step.ensures.room,
        c.in-Ok.ensures.due_room,
      ),
      omega (
        arith,
        c.note_step.ensures.out,
        one_said c.len-place.result said,
        c.in-Ok.ensures.sends_room,
      ),
    )

pub invariant_of-self-in-Err : goal.invariant_of-self-in-Err
invariant_of-self-in-Err g c =
    let ready = subst (AreUnderWay c.args.config.now) (sym c.self.view_is) c.requires.ready.ready in
    let may = subst MayBegin (sym c.self.view_is) c.requires.ready.may in
    let on = subst (λ (r : Request). GoesOn g.H.Health.steps c.args.health.now
    (λ calls. KeyLost c.args.config.now r calls c.in-Err.dropped) c.begin-came.new.health)
    (ap (λ (k : KeySlot). k.key.request) c.of-slot.ensures) c.in-Err.ensures.lost in
    let slots : c.push_reserved-in-Err.new.self.items ≡ c.self.inside.slots.items
    ++ c.begin-came.new.self ∷ [] =
    c.push_reserved-in-Err.ensures.items
    ∙ ap (λ (xs : List KeySlot). xs ++ c.begin-came.new.self ∷ []) c.make_room.ensures.slots in
    let ends = begin_lost_ends {slots' = c.push_reserved-in-Err.new.self.items} {due' =
    c.make_room.new.due.items} {sends' =
    c.make_room.new.sends.items} c.begin-came.new.self c.self.view_is ready may
    c.next_request-request.ensures.takes on c.in-Err.ensures.err slots c.make_room.ensures.due.0
    c.make_room.ensures.sends.0 in
    let all : length (key_places_in c.make_room.new.due.items c.make_room.new.sends.items
    c.self.inside.came) ≡ length
    (key_places_in c.self.inside.due.items c.self.inside.sends.items c.self.inside.came) =
    ap (λ ds. length (key_places_in ds c.make_room.new.sends.items c.self.inside.came))
    c.make_room.ensures.due.0
    ∙ ap (λ ss. length (key_places_in c.self.inside.due.items ss c.self.inside.came))
    c.make_room.ensures.sends.0 in
    let count : c.len.result ≡ length c.begin-came.new.self.outbox = search rules in
    let sum : c.saturating_add-self-inside.result ≡ min (c.self.inside.held + c.len.result)
    (2 ^ 64 - 1) = search rules in (
      c.next_request-request.ensures.alone,
      c.values_ahead-self-inside-in-Err.ensures ∙ ap values_ahead c.deref-in-Err.ensures.value,
      places_of _ ends.1,
      held_push c.self.inside.slots.items c.push_reserved-in-Err.new.self.items
          c.begin-came.new.self c.len.result c.self.inside.held c.saturating_add-self-inside.result
          slots c.self.invariant.3 count sum,
      c.self.invariant.4 ∙ sym all,
      omega (arith, c.self.invariant.5, c.make_room.ensures.due.1),
      omega (arith, c.self.invariant.6, c.make_room.ensures.sends.1),
    )
