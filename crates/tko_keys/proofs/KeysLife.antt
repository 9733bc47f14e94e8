-- What the keys of a request come to, over all calls of them.
use Rattle.std.proofs.Common.{◌≡◌, ◌<◌, ℕ, zero, suc, Bool, true, false, List, [], ◌∷◌, ◌++◌}
use Rattle.std.proofs.Common.{length, length-append, Option, Some, None, refl, sym, ap, subst, ◌∙◌}
use Rattle.std.proofs.Common.{append-nil, arith, true≢false}
use Rattle.std.specs.Prelude.{slice_get}
use Rattle.std.proofs.lemmas.List.Elements.{All-nil}
use Rattle.std.proofs.lemmas.List.Sums.{prefix_len_passes}
use Rattle.std.proofs.lemmas.Option.{get_or_from_slice_get, none-some, slice_get_past}
use Rattle.std.proofs.lemmas.Option.{slice_get_within}
use Rattle.tko_text.specs.declared.request.Request.{Request}
use Rattle.tko_pools.specs.Configs.{Configuration}
use Rattle.tko_route.specs.Underway.{Awaited}
use Rattle.tko_reply.specs.Answers.{request_keys}
use Rattle.tko_reply.specs.Interactions.{Interaction}
use Rattle.tko_reply.specs.Replies.{IsReply, RoutedKey, end_line, keys_in, reply_written}
use Rattle.tko_reply.specs.Replies as reply
use Rattle.tko_reply.specs.declared.asking.ReplyPart.{ReplyPart}
use Rattle.tko_reply.specs.declared.asking.ReplyPart.TheVariants as share
use Rattle.tko_reply.proofs.AnsweringLemmas.{retrieval_keys, retrieval_written}
use Rattle.tko_keys.specs.declared.plan.KeyPlan.{KeyPlan}
use Rattle.tko_keys.specs.AtOnce.{AnswersAtOnce, ArePlaced, IsCutAtOnce, MayStand, own_of}
use Rattle.tko_keys.specs.KeysActs.{KeysAct}
use Rattle.tko_keys.specs.KeysActs as act
use Rattle.tko_keys.specs.KeysDriven.{AreUnderWay, outs_at, outs_by, outs_in}
use Rattle.tko_keys.specs.KeysDriven as driven
use Rattle.tko_keys.specs.KeysSoFar.{IsSlotAt, KeysSoFar, is_to_take}
use Rattle.tko_keys.specs.KeysState.{IsComplete, IsNew, KeySlot, KeysState, failed_by, fresh_keys}
use Rattle.tko_keys.specs.KeysState.{has_values, listed_by, places_out, reply_at, reply_in}
use Rattle.tko_keys.specs.KeysState.{values_ahead}
use Rattle.tko_keys.proofs.OutLemmas.{count_at}
use Rattle.tko_keys.proofs.ReplyLemmas.{HasEnded, ReplyAt, all_listed, are_ended, one_other}
use Rattle.tko_keys.proofs.ReplyLemmas.{reply_of}
pub use Rattle.tko_keys.proofs.ActLemmas.{keys_on}

no_own : (place : ℕ) → own_of place [] ≡ []
unfolding own_of
no_own place = refl

fresh_ready : (config : Configuration) (plan : KeyPlan) (keys : List (List ℕ)) (unique : Bool)
    → 0 < plan.most
    → AreUnderWay config (fresh_keys plan keys unique)
fresh_ready config plan keys unique some = record {
  due = All-nil (driven.IsDueAt config []);
  sent = All-nil (driven.IsSentAt config plan.grouping unique []);
  came = record { each = All-nil (driven.IsOutAt config []); parts = omega arith; replied = tt };
  once = λ place. refl;
  some = some;
  few = omega arith;
  near = omega arith;
  failed = λ e. absurd (let none : ⊥ = cc e in none);
}

-- no key was begun
pub keys_new : (config : Configuration) (request : Request) (plan : KeyPlan) (state : KeysState)
    → 1 < length (request_keys request) → 0 < plan.most → IsNew request plan state
    → KeysSoFar config request state []
keys_new config request plan state several some new =
    subst (λ (s : KeysState). KeysSoFar config request s []) (sym new.is) (record {
      several = several;
      ready = fresh_ready config plan new.keys new.unique some;
      begun = [];
      whole = new.whole;
      all = refl;
      placed = [];
      are_placed = record {
        are = refl;
        only = λ place past. no_own place;
        may = All-nil (MayStand plan.grouping);
      };
      each = λ place key slot has at. absurd (none-some slot at);
    })

none_by : (awaited : Option Awaited) → outs_by awaited ≡ 0 → awaited ≡ None
none_by None none = refl
none_by (Some awaited) none = absurd (omega (arith, none))

-- where nothing is under way, no key is out
over_all : {config : Configuration} {state : KeysState} → AreUnderWay config state
    → places_out state ≡ [] → (place : ℕ) (slot : KeySlot) → slice_get state.slots place ≡ Some slot
    → slot.awaited ≡ None
over_all {config} {state} ready none place slot at =
    let count : count_at place (places_out state) ≡ 0 = ap (count_at place) none in
    let outs : outs_at state.slots place ≡ outs_by slot.awaited = ap outs_in at in
    none_by slot.awaited (omega (arith, count, outs, ready.once place))

get_beside : {X Y : Type 0} (xs : List X) (ys : List Y) (i : ℕ) (x : X) → length xs ≡ length ys
    → slice_get xs i ≡ Some x → (y : Y) × (slice_get ys i ≡ Some y)
get_beside [] ys i x same at = absurd (none-some x at)
get_beside (x' ∷ xs) [] i x same at = absurd (omega (arith, same))
get_beside (x' ∷ xs) (y ∷ ys) zero x same at = (y, refl)
get_beside (x' ∷ xs) (y ∷ ys) (suc i) x same at = get_beside xs ys i x (omega (arith, same)) at

keys_of : {config : Configuration} {request : Request} {state : KeysState} {done : List Interaction}
    → (s : KeysSoFar config request state done)
    → request_keys request ≡ s.begun ++ state.left
keys_of {state = state} s =
    ap request_keys s.whole ∙ retrieval_keys (s.begun ++ state.left) state.unique

-- memory ran out for one of them
pub keys_cut : (config : Configuration) (request : Request) (state : KeysState)
    (done : List Interaction) → KeysSoFar config request state done → IsComplete state
    → state.lost ≡ true
    → IsCutAtOnce state.plan config request done
keys_cut config request state done s complete lost = record {
  several = s.several;
  begun = s.begun;
  left = state.left;
  keys = keys_of s;
  placed = s.placed;
  are_placed = subst (λ n. ArePlaced state.plan.grouping n s.placed done) (sym s.all) s.are_placed;
  each = λ place key has.
      let slot = get_beside s.begun state.slots place key s.all has in
      subst (λ l. IsSlotAt config request key state.came (is_to_take place state.came) None l slot.0
      (own_of place s.placed)) lost
      (subst (λ w. IsSlotAt config request key state.came
      (is_to_take place state.came) w state.lost slot.0 (own_of place s.placed))
      (over_all s.ready complete.0 place slot.0 slot.1)
      (s.each place key slot.0 has slot.1));
}

failed_none : (awaited : Option Awaited) (kind : ReplyPart) → failed_by awaited kind ≡ true
    → listed_by awaited kind ≡ false
failed_none None (share.Whole silent) failed = refl
failed_none None (share.Joined begin left) failed = absurd (let none : ⊥ = cc failed in none)
failed_none (Some awaited) kind failed = refl

-- no key failed where all got lists of values
never_failed : {config : Configuration} {state : KeysState} → AreUnderWay config state
    → values_ahead state.slots ≡ length state.slots → (failed : Bool) → state.failed ≡ failed
    → state.failed ≡ false
never_failed ready all false is = is
never_failed {config} {state} ready all true is =
    let it = ready.failed is in
    let within = slice_get_within state.slots it.place it.slot it.at in
    let passes : has_values it.slot ≡ true =
    ap has_values (sym (get_or_from_slice_get state.slots it.place it.slot it.slot it.at))
    ∙ prefix_len_passes has_values state.slots it.place it.slot (omega (arith, within, all)) in
    absurd (true≢false (sym passes ∙ failed_none it.slot.awaited it.slot.key.share it.is))

cons_or_nil : {X : Type 0} (x : X) (xs : List X) → x ∷ xs ≡ [] → ⊥
cons_or_nil x xs e = cc

-- all keys were begun where all got lists of values
none_left : {config : Configuration} {state : KeysState} → AreUnderWay config state
    → IsComplete state → state.lost ≡ false → values_ahead state.slots ≡ length state.slots
    → (left : List (List ℕ)) → state.left ≡ left → state.left ≡ []
none_left ready complete lost all [] is = is
none_left {config} {state} ready complete lost all (key ∷ left) is =
    let few : length (places_out state) < state.plan.most =
    subst (λ (xs : List ℕ). length xs < state.plan.most) (sym complete.0) ready.some in
    absurd (complete.1 (
      (λ e. cons_or_nil key left (sym is ∙ e)),
      never_failed ready all state.failed refl,
      lost,
      few,
      omega (arith, all, ready.some),
    ))

-- the reply of keys that have ended
reply_by : {config : Configuration} {state : KeysState} {keys : List (List ℕ)}
    → AreUnderWay config state → IsComplete state → state.lost ≡ false → (routed : List RoutedKey)
    → keys ≡ keys_in routed ++ state.left → length routed ≡ length state.slots
    → ReplyAt routed state.slots → IsReply state.plan.most keys routed (reply_in state.slots)
reply_by {config} {state} {keys} ready complete lost routed are all (all_listed many values same) =
    let past : slice_get state.slots (values_ahead state.slots) ≡ None =
    slice_get_past state.slots (values_ahead state.slots) (omega (arith, many)) in
    reply.all_values (are ∙ ap (λ ks. keys_in routed ++ ks)
    (none_left ready complete lost many state.left refl) ∙ append-nil (keys_in routed)) values
    (ap (λ (o : Option KeySlot). reply_at o state.slots) past ∙ ap (λ xs. xs ++ end_line) same)
reply_by {config} {state} {keys} ready complete lost routed are all
    (one_other before last ahead slot parts count values other is text) =
    reply.first_other before last ahead state.left parts
    (omega (arith, all, ap length parts, length-append before (last ∷ ahead), count, ready.near))
    are values other
    (ap (λ (o : Option KeySlot). reply_at o state.slots) is ∙ text)

-- all of them have ended
pub keys_answer : (config : Configuration) (request : Request) (state : KeysState)
    (done : List Interaction) → KeysSoFar config request state done → IsComplete state
    → state.lost ≡ false
    → (routed : List RoutedKey) × AnswersAtOnce state.plan config request routed
    (reply_in state.slots) done
keys_answer config request state done s complete lost =
    let ended : (place : ℕ) (key : List ℕ) (slot : KeySlot) → slice_get s.begun place ≡ Some key
    → slice_get state.slots place ≡ Some slot
    → HasEnded config request key slot (own_of place s.placed) =
    λ place key slot has at.
    let over = over_all s.ready complete.0 place slot at in
    record {
      over = over;
      is =
          subst (λ l. IsSlotAt config request key state.came
          (is_to_take place state.came) None l slot (own_of place s.placed)) lost
          (subst (λ w. IsSlotAt config request key state.came
          (is_to_take place state.came) w state.lost slot (own_of place s.placed)) over
          (s.each place key slot has at));
    } in
    let all = are_ended s.begun state.slots (λ place. own_of place s.placed) s.all ended in
    let keys : request_keys request ≡ keys_in all.routed ++ state.left =
    keys_of s ∙ ap (λ ks. ks ++ state.left) (sym all.are) in (
      all.routed,
      record {
        several = s.several;
        placed = s.placed;
        are_placed = subst (λ n. ArePlaced state.plan.grouping n s.placed done)
            (sym all.all) s.are_placed;
        each = all.each;
        reply = reply_in state.slots;
        is_reply = reply_by s.ready complete lost all.routed keys all.all
            (reply_of all.routed state.slots all.all all.holds);
        is_written =
            sym (ap (λ (r : Request). reply_written r (reply_in state.slots)) s.whole
            ∙ retrieval_written (s.begun ++ state.left) state.unique (reply_in state.slots));
      },
    )

module _ {config : Configuration} {old new : KeysState} where
  -- how they are sent stays
  pub keys_plan : {adds : List Interaction} → KeysAct config old adds new → new.plan ≡ old.plan
  keys_plan (act.began calls said it are) = ap (λ (s : KeysState). s.plan) it.state
  keys_plan (act.began_unrecorded calls trail mid it same are) =
      ap (λ (s : KeysState). s.plan) same ∙ ap (λ (s : KeysState). s.plan) it.state
  keys_plan (act.begin_lost calls attempts (driven.unbegun none no_attempts is) are) =
      ap (λ (s : KeysState). s.plan) is
  keys_plan (act.begin_lost calls attempts
      (driven.at_next key left slot may next lost ended is) are) = ap (λ (s : KeysState). s.plan) is
  keys_plan (act.sent server short it are) = ap (λ (s : KeysState). s.plan) it.state
  keys_plan (act.arrived server outcome calls it are) = ap (λ (s : KeysState). s.plan) it.state
  keys_plan (act.stopped server was_sent it are) = ap (λ (s : KeysState). s.plan) it.state
  keys_plan (act.unsent server was_sent it are) = ap (λ (s : KeysState). s.plan) it.state
  keys_plan (act.took calls said it are) = ap (λ (s : KeysState). s.plan) it.state
  keys_plan (act.took_unrecorded calls trail mid it same are) =
      ap (λ (s : KeysState). s.plan) same ∙ ap (λ (s : KeysState). s.plan) it.state
  keys_plan (act.take_lost calls attempts it are) = ap (λ (s : KeysState). s.plan) it.state
