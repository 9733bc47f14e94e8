-- What each call leaves for the next one.
use Rattle.std.proofs.Common.{◌≡◌, ◌≢◌, ◌<◌, ◌≤◌, ◌+◌, ◌==◌, ℕ, zero, Bool, true, false, List, []}
use Rattle.std.proofs.Common.{◌++◌, cond, length, length-append, Some, None, refl, sym, ap, subst}
use Rattle.std.proofs.Common.{◌∙◌, arith, inl, inr, true≢false}
use Rattle.std.specs.Prelude.{◌⊎◌, All, slice_get, slice_index_or}
use Rattle.std.proofs.lemmas.Bool.Decides.{eqb_tells}
use Rattle.std.proofs.lemmas.List.{map-append}
use Rattle.std.proofs.lemmas.List.Elements.{All-append, All-cons, All-nil}
use Rattle.tko_pools.specs.Configs.{Configuration}
use Rattle.tko_route.specs.Underway.{Awaited}
use Rattle.tko_keys.specs.declared.step.KeyStep.{KeyStep}
use Rattle.tko_keys.specs.KeysDriven.{AreUnderWay, HasKeyFailed, HaveCome, IsDueAt, IsSentAt}
use Rattle.tko_keys.specs.KeysDriven.{due as due_at, due_by, outs_at, outs_by, outs_in}
use Rattle.tko_keys.specs.KeysState.{DueKey, KeySlot, KeysState, has_failed, key_places_in}
use Rattle.tko_keys.specs.KeysState.{places_out, values_ahead}
use Rattle.tko_keys.specs.SlotCalls.{IsSlotOut}
use Rattle.tko_keys.specs.declared.step.KeyStep.TheVariants as step
use Rattle.tko_keys.proofs.PlaceLemmas.{IsChanged}
use Rattle.tko_keys.proofs.OutLemmas.{count_append, count_at, count_cons, count_in, due_apart}
use Rattle.tko_keys.proofs.OutLemmas.{due_places, length_in, send_apart, send_places}
use Rattle.tko_keys.proofs.StayLemmas.{came_stays, due_stays, sent_stays}

-- a key where a call said this of it: it is due, or has ended
abbrev pub IsSaid : Configuration → KeySlot → KeyStep → Type 0
IsSaid config after (step.Due server) =
    (awaited : Awaited) × IsSlotOut config after awaited × (awaited.server ≡ server)
IsSaid config after (step.Tried trail) = after.awaited ≡ None

-- One key came further, whose place this is: the others that are due or under way stay so.
pub record KeysStep (config : Configuration) (old new : KeysState) (place : ℕ) (after : KeySlot)
    (said : KeyStep) : Type 0 where
  pub changed : IsChanged old.slots place after new.slots
  pub split : (at : ℕ) → count_at at (places_out old) ≡ count_at at (key_places_in old.due old.sends
      new.came) + cond (place == at) (outs_at old.slots place) 0
  pub due : new.due ≡ old.due ++ due_by place said
  pub sends : new.sends ≡ old.sends
  pub came : HaveCome config old.slots new.came
  pub plan : new.plan ≡ old.plan
  pub unique : new.unique ≡ old.unique
  pub few : length (key_places_in old.due old.sends new.came) < old.plan.most
  pub near : length new.slots ≤ values_ahead new.slots + new.plan.most
  pub failed : new.failed ≡ true → (old.failed ≡ true) ⊎ (has_failed after ≡ true)
  pub free : (slot : KeySlot) → slice_get old.slots place ≡ Some slot → has_failed slot ≡ false
  pub says : IsSaid config after said

none_or_none : (b : Bool) → cond b zero zero ≡ zero
none_or_none true = refl
none_or_none false = refl

count_said : (config : Configuration) (after : KeySlot) (at place : ℕ) (said : KeyStep)
    → IsSaid config after said
    → count_at at (due_places (due_by place said)) ≡ cond (place == at) (outs_by after.awaited) 0
count_said config after at place (step.Due server) (awaited, out, to) =
    omega (arith, count_cons at place [], ap (λ n. cond (place == at) n 0) (ap outs_by out.out))
count_said config after at place (step.Tried trail) ended =
    sym (ap (λ n. cond (place == at) n 0) (ap outs_by ended) ∙ none_or_none (place == at))

pub one_said : (place : ℕ) (said : KeyStep) → length (due_by place said) ≤ 1
one_said place (step.Due server) = omega arith
one_said place (step.Tried trail) = omega arith

module _ {config : Configuration} {old new : KeysState} {place : ℕ} {after : KeySlot}
    {said : KeyStep} (ready : AreUnderWay config old)
    (on : KeysStep config old new place after said) where
  abbrev others : List ℕ
  others = key_places_in old.due old.sends new.came

  none_other : count_at place others ≡ 0
  none_other = elim (eqb_tells place place) [
    | inl eq ↦
        let all : count_at place (places_out old) ≡ outs_at old.slots place = ready.once place in
        let split : count_at place
        (places_out old) ≡ count_at place others + outs_at old.slots place =
        on.split place ∙ ap (λ b. count_at place others + cond b (outs_at old.slots place) 0)
        eq.0 in
        omega (arith, all, split)
    | inr ne ↦ absurd (ne.1 refl)
  ]

  no_due : count_at place (due_places old.due) ≡ 0
  no_due = omega (arith, none_other, count_in place old.due old.sends new.came)

  no_send : count_at place (send_places old.sends) ≡ 0
  no_send = omega (arith, none_other, count_in place old.due old.sends new.came)

  pub no_came : count_at place new.came.places ≡ 0
  no_came = omega (arith, none_other, count_in place old.due old.sends new.came)

  out_now : places_out new ≡ key_places_in (old.due ++ due_by place said) old.sends new.came
  out_now = ap (λ ds. key_places_in ds new.sends new.came) on.due
      ∙ ap (λ ss. key_places_in (old.due ++ due_by place said) ss new.came) on.sends

  count_now : (at : ℕ) → count_at at (places_out new) ≡ count_at at others + cond (place == at)
      (outs_by after.awaited) 0
  count_now at =
      let due : count_at at (due_places
      (old.due ++ due_by place said)) ≡ count_at at (due_places
      old.due) + count_at at (due_places (due_by place said)) =
      ap (count_at at) (map-append (λ (it : DueKey). it.place) old.due (due_by place said))
      ∙ count_append at (due_places old.due) (due_places (due_by place said)) in
      ap (count_at at) out_now
      ∙ omega (
        arith,
        count_in at (old.due ++ due_by place said) old.sends new.came,
        count_in at old.due old.sends new.came,
        due,
        count_said config after at place said on.says,
      )

  once_here : (at : ℕ) → count_at at (places_out new) ≡ outs_at new.slots at
  once_here at = elim (eqb_tells place at) [
    | inl eq ↦
        let here : outs_at new.slots at ≡ outs_by after.awaited =
        ap (outs_at new.slots) (sym eq.1) ∙ ap outs_in on.changed.at in
        let more : count_at at (places_out new) ≡ count_at at others + outs_by after.awaited =
        count_now at ∙ ap (λ b. count_at at others + cond b (outs_by after.awaited) 0) eq.0 in
        let none : count_at at others ≡ 0 = ap (λ n. count_at n others) (sym eq.1) ∙ none_other in
        omega (arith, here, more, none)
    | inr ne ↦
        let there : outs_at new.slots at ≡ outs_at old.slots at =
        ap outs_in (on.changed.others at (λ e. ne.1 (sym e))) in
        let more : count_at at (places_out new) ≡ count_at at others + 0 =
        count_now at ∙ ap (λ b. count_at at others + cond b (outs_by after.awaited) 0) ne.0 in
        let split : count_at at (places_out old) ≡ count_at at others + 0 =
        on.split at ∙ ap (λ b. count_at at others + cond b (outs_at old.slots place) 0) ne.0 in
        omega (arith, there, more, split, ready.once at)
  ]

  newly_due : (said : KeyStep) → IsSaid config after said
      → All (IsDueAt config new.slots) (due_by place said)
  newly_due (step.Due server) (awaited, out, to) =
      All-cons (IsDueAt config new.slots) (due_at place server) []
      (record { slot = after; awaited = awaited; at = on.changed.at; is = out; server = to })
      (All-nil (IsDueAt config new.slots))
  newly_due (step.Tried trail) ended = All-nil (IsDueAt config new.slots)

  all_due : All (IsDueAt config new.slots) new.due
  all_due =
      let apart = due_apart place old.due no_due in
      let stay : All (IsDueAt config new.slots) old.due =
      λ k d within. due_stays on.changed (slice_index_or old.due k d) (apart k d within)
      (ready.due k d within) in
      subst (All (IsDueAt config new.slots)) (sym on.due)
      (All-append (IsDueAt config new.slots) old.due (due_by place said) stay
      (newly_due said on.says))

  all_sent : All (IsSentAt config new.plan.grouping new.unique new.slots) new.sends
  all_sent =
      let apart = send_apart place old.sends no_send in
      let stay : All (IsSentAt config old.plan.grouping old.unique new.slots) old.sends =
      λ k d within. sent_stays on.changed old.plan.grouping old.unique
      (slice_index_or old.sends k d) (apart k d within) (ready.sent k d within) in
      subst (λ p. All (IsSentAt config p.grouping new.unique new.slots) new.sends) (sym on.plan)
      (subst (λ u. All (IsSentAt config old.plan.grouping u new.slots) new.sends) (sym on.unique)
      (subst (All (IsSentAt config old.plan.grouping old.unique new.slots)) (sym on.sends) stay))

  has_one_failed : new.failed ≡ true → HasKeyFailed new.slots
  has_one_failed is = elim (on.failed is) [
    | inl before ↦
        let it = ready.failed before in
        let apart : it.place ≢ place =
        λ e. true≢false (sym it.is
        ∙ on.free it.slot (ap (slice_get old.slots) (sym e) ∙ it.at)) in
        record {
          place = it.place;
          slot = it.slot;
          at = on.changed.others it.place apart ∙ it.at;
          is = it.is;
        }
    | inr now ↦ record { place = place; slot = after; at = on.changed.at; is = now }
  ]

  few_now : length (places_out new) ≤ new.plan.most
  few_now =
      omega (
        arith,
        ap length out_now,
        length_in (old.due ++ due_by place said) old.sends new.came,
        length_in old.due old.sends new.came,
        length-append old.due (due_by place said),
        one_said place said,
        on.few,
        ap (λ p. p.most) on.plan,
      )

  pub step_ready : AreUnderWay config new
  step_ready = record {
    due = all_due;
    sent = all_sent;
    came = came_stays on.changed new.came no_came on.came;
    once = once_here;
    some = subst (λ p. 0 < p.most) (sym on.plan) ready.some;
    few = few_now;
    near = on.near;
    failed = has_one_failed;
  }

-- Requests are sent, or something came of one: no key came further.
pub record RestStep (config : Configuration) (old new : KeysState) : Type 0 where
  pub slots : new.slots ≡ old.slots
  pub plan : new.plan ≡ old.plan
  pub unique : new.unique ≡ old.unique
  pub failed : new.failed ≡ old.failed
  pub due : All (IsDueAt config old.slots) new.due
  pub sent : All (IsSentAt config old.plan.grouping old.unique old.slots) new.sends
  pub came : HaveCome config old.slots new.came
  pub count : (at : ℕ) → count_at at (places_out new) ≡ count_at at (places_out old)
  pub as_many : length (places_out new) ≡ length (places_out old)

pub rest_ready : {config : Configuration} {old new : KeysState} → AreUnderWay config old
    → RestStep config old new → AreUnderWay config new
rest_ready {config} {old} {new} ready on = record {
  due = subst (λ ss. All (IsDueAt config ss) new.due) (sym on.slots) on.due;
  sent =
      subst (λ ss. All (IsSentAt config new.plan.grouping new.unique ss) new.sends) (sym on.slots)
      (subst (λ p. All (IsSentAt config p.grouping new.unique old.slots) new.sends) (sym on.plan)
      (subst (λ u. All (IsSentAt config old.plan.grouping u old.slots) new.sends)
      (sym on.unique) on.sent));
  came = subst (λ ss. HaveCome config ss new.came) (sym on.slots) on.came;
  once = λ place. on.count place ∙ ready.once place ∙ ap (λ ss. outs_at ss place) (sym on.slots);
  some = subst (λ p. 0 < p.most) (sym on.plan) ready.some;
  few = omega (arith, on.as_many, ready.few, ap (λ p. p.most) on.plan);
  near = subst (λ ss. length ss ≤ values_ahead ss + new.plan.most) (sym on.slots)
      (subst (λ p. length old.slots ≤ values_ahead old.slots + p.most) (sym on.plan) ready.near);
  failed = λ is. subst HasKeyFailed (sym on.slots) (ready.failed (sym on.failed ∙ is));
}
