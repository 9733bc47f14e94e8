-- One client's life where a request of it was handed over: from where its keys begin to where its
-- reply is taken.
use Rattle.std.proofs.Common.{◌≡◌, ◌<◌, ℕ, false, List, [], ◌∷◌, ◌++◌, Option, Some, None, length}
use Rattle.std.proofs.Common.{refl, sym, ap, subst, ◌∙◌, append-nil, arith, inl, inr}
use Rattle.std.specs.Prelude.{slice_get}
use Rattle.std.proofs.lemmas.Bool.{cases_Bool}
use Rattle.std.proofs.lemmas.List.{length-map}
use Rattle.std.proofs.lemmas.Option.{slice_get-map}
use Rattle.std.specs.Option.{option_map}
use Rattle.tko_text.specs.declared.item.Item.TheVariants as item
use Rattle.tko_text.specs.declared.request.Request.{Request}
use Rattle.tko_text.specs.declared.request.Request.TheVariants as asked
use Rattle.tko_pools.specs.Configs.{Configuration}
use Rattle.tko_reply.specs.Answering.{Extends}
use Rattle.tko_reply.specs.Answers.{IsKeyRouted, request_keys}
use Rattle.tko_reply.specs.Interactions.{Interaction, Recorded}
use Rattle.tko_reply.specs.Replies.{IsReply, RoutedKey, keys_in, routed_key}
use Rattle.tko_reply.specs.Replies as reply
use Rattle.tko_reply.specs.TrailEvents.{Asked}
use Rattle.tko_reply.specs.declared.asking.OneKey.{OneKey}
use Rattle.tko_keys.specs.AtOnce.{AnswersAtOnce, ArePlaced, IsCutAtOnce, own_of}
use Rattle.tko_keys.specs.AtOnce as at_once
use Rattle.tko_keys.specs.KeysActs.{KeysAct}
use Rattle.tko_keys.specs.KeysSoFar.{KeysSoFar}
use Rattle.tko_keys.specs.KeysState.{IsComplete, IsNew, KeysState, reply_in}
use Rattle.tko_keys.proofs.KeysLife.{keys_answer, keys_cut, keys_plan, keys_new, keys_on}
use Rattle.tko_keys.specs.declared.plan.KeyPlan.{KeyPlan}
use Rattle.tko_session.specs.Clients.{IsClientIn, IsClientOpen, IsClientShort, Life}
use Rattle.tko_session.specs.Clients as clients
use Rattle.tko_session.specs.Acts.{phase_after}
use Rattle.tko_session.specs.Driven.{dropped}
use Rattle.tko_session.specs.Handing.{HandsOver, handed_over, replied_by}
use Rattle.tko_session.specs.SessionState.{SessionState, progress_of}
use Rattle.tko_session.specs.SoFar.{AreKeysPending, IsPendingAt, PendingRequest}
use Rattle.tko_session.specs.Turns.{IsRequestCut, IsRequestCutWithin, IsSessionTurn, IsTurnWithin}
use Rattle.tko_session.specs.Turns.{SessionTurn}
use Rattle.tko_session.specs.Turns as turn
use Rattle.tko_session.specs.Working as work
use Rattle.tko_session.specs.declared.step.Progress.TheVariants as progress
use Rattle.tko_session.specs.declared.step.Step.TheVariants as step
use Rattle.tko_session.proofs.KeyCutLemmas.{taken}
use Rattle.tko_session.proofs.LifeLemmas.{between_or_handed, between_or_read, end_turn, on_open}
use Rattle.tko_session.proofs.LifeLemmas.{open_on}
use Rattle.tko_session.proofs.TurnedLemmas.{did, more_turned}
use Rattle.tko_session.proofs.TurnLemmas.{request_progress}

-- the keys that were routed, and those that were not
reply_keys : {most : ℕ} {keys : List (List ℕ)} {routed : List RoutedKey} {text : List ℕ}
    → IsReply most keys routed text → (left : List (List ℕ)) × (keys ≡ keys_in routed ++ left)
reply_keys {routed = routed} (reply.all_values are values is) =
    ([], are ∙ sym (append-nil (keys_in routed)))
reply_keys (reply.first_other before last ahead unrouted parts few are values other is) =
    (unrouted, are)

-- the key of a place is that of the key that was routed there
routed_at : (found : Option RoutedKey) (key : List ℕ)
    → option_map (λ (one : RoutedKey). one.key) found ≡ Some key
    → (one : RoutedKey) × (found ≡ Some one) × (one.key ≡ key)
routed_at None key same = absurd (let none : ⊥ = cc in none)
routed_at (Some one) key same = (one, refl, cc)

-- a request whose keys were all routed, and then memory ran out
answers_cut : {plan : KeyPlan} {config : Configuration} {request : Request}
    {routed : List RoutedKey} {text : List ℕ} {done : List Interaction}
    → AnswersAtOnce plan config request routed text done → IsCutAtOnce plan config request done
answers_cut {plan} {config} {request} {routed} {done = done} answers =
    let left = reply_keys answers.is_reply in
    let placed = answers.placed in
    record {
      several = answers.several;
      begun = keys_in routed;
      left = left.0;
      keys = left.1;
      placed = placed;
      are_placed = subst (λ n. ArePlaced plan.grouping n placed done)
          (sym (length-map routed (λ (one : RoutedKey). one.key))) answers.are_placed;
      each = λ place key at.
          let one = routed_at (slice_get routed place) key
          (sym (slice_get-map (λ (one : RoutedKey). one.key) routed place) ∙ at) in
          at_once.routed one.0.trail (subst (λ k. IsKeyRouted config request (routed_key k
          one.0.trail) (own_of place placed)) one.2 (answers.each place one.0 one.1));
    }

-- a request for several keys does not end its session
several_go_on : (request : Request) → 1 < length (request_keys request)
    → progress_of request ≡ progress.More
several_go_on (asked.Get keys) several = refl
several_go_on (asked.Gets keys) several = refl
several_go_on (asked.Store verb entry noreply) several = refl
several_go_on (asked.Cas entry unique noreply) several = refl
several_go_on (asked.Delete key noreply) several = refl
several_go_on (asked.Incr key amount noreply) several = refl
several_go_on (asked.Decr key amount noreply) several = refl
several_go_on (asked.Touch key expiry noreply) several = refl
several_go_on asked.Version several = refl
several_go_on asked.Quit several = absurd (omega (arith, several))
several_go_on asked.StatsTko several = refl

-- with one key under way at a time, keys are asked for one after another
pub in_turn : (plan : KeyPlan) (config : Configuration) (one : SessionTurn)
    (done : List Interaction) → plan.most ≡ 1 → IsTurnWithin plan config one done
    → IsSessionTurn config one done
in_turn plan config one done only (turn.in_turn is) = is
in_turn plan config one done only (turn.at_once request then several asks are answers) =
    absurd (omega (arith, only, several))

pub cut_in_turn : (plan : KeyPlan) (config : Configuration) (request : Request)
    (done : List Interaction) → plan.most ≡ 1 → IsRequestCutWithin plan config request done
    → IsRequestCut config request done
cut_in_turn plan config request done only (turn.cut_in_turn is) = is
cut_in_turn plan config request done only (turn.cut_at_once then several are lost) =
    absurd (omega (arith, only, several))

same_keys : {was now : KeysState} → Some was ≡ Some now → was ≡ now
same_keys same = cc

module _ {plan : KeyPlan} {keys : Option KeysState} {config : Configuration} where
  -- it was handed over, and none of its keys was begun
  pub hand_open : {it : Life} {state new : SessionState} {request : Request} {begun : KeysState}
      → IsClientOpen plan keys config it state → 1 < plan.most
      → HandsOver state request new → IsNew request plan begun
      → IsClientOpen plan (Some begun) config it new
  hand_open {it} {state} {request = request} {begun} s several hands is =
      let on = open_on (work.Read hands.one) s hands.at (between_or_read hands.one) in
      let under = on.under in
      let same : request ≡ under.request =
      hands.gives ∙ ap (λ (one : OneKey). one.request) on.far.0 in
      let first : KeysSoFar config request begun [] =
      keys_new config request plan begun hands.several (omega (arith, several)) is in
      let far : AreKeysPending plan (Some begun) config under state.outbox = record {
        state = begun;
        at = refl;
        several = several;
        within = ap (λ (k : KeysState). k.plan) is.is;
        so_far = subst (λ ds. KeysSoFar config under.request begun ds) (sym on.far.1)
            (subst (λ r. KeysSoFar config r begun []) same first);
        waits = on.far.2;
      } in
      subst (λ (st : SessionState). IsClientOpen plan (Some begun) config it st) (sym hands.state)
      (on_open {state = handed_over state} under (record {
        left = on.on.left;
        base = on.on.base;
        emits = on.on.emits;
        begin = on.on.begin;
      }) far)

  -- a call was made for its keys
  pub keyed_open : {it : Life} {state : SessionState}
      {was now : KeysState} {done : List Interaction} → IsClientOpen plan keys config it state
      → state.work ≡ work.HandedOver
      → keys ≡ Some was → KeysAct config was done now
      → IsClientOpen plan (Some now) config (did it done) state
  keyed_open {it} {state} {was} {now} {done} s at are acts =
      let on = open_on work.HandedOver s at between_or_handed in
      let under = on.under in
      let old : AreKeysPending plan keys config under state.outbox = on.far in
      let same : old.state ≡ was = same_keys (sym old.at ∙ are) in
      let after : PendingRequest = record under { done = under.done ++ done } in
      let far : AreKeysPending plan (Some now) config after state.outbox = record {
        state = now;
        at = refl;
        several = old.several;
        within = keys_plan acts ∙ ap (λ (k : KeysState). k.plan) (sym same) ∙ old.within;
        so_far = keys_on config under.request was now under.done done
            (subst (λ k. KeysSoFar config under.request k under.done) same old.so_far) acts;
        waits = old.waits;
      } in
      on_open {state = state} after (record {
        left = on.on.left;
        base = more_turned done on.on.base;
        emits = on.on.emits;
        begin = on.on.begin;
      })
      (subst (λ w. IsPendingAt plan (Some now) config after w state.targets state.outbox)
      (sym at) far)

  -- its reply was taken
  pub replied_open : {it : Life} {state : SessionState} {was : KeysState}
      → IsClientOpen plan keys config it state → state.work ≡ work.HandedOver
      → keys ≡ Some was → IsComplete was → was.lost ≡ false
      → IsClientOpen plan None config it (replied_by (reply_in was.slots) state)
  replied_open {it} {state} {was} s at are complete kept =
      let on = open_on work.HandedOver s at between_or_handed in
      let under = on.under in
      let far : AreKeysPending plan keys config under state.outbox = on.far in
      let same : far.state ≡ was = same_keys (sym far.at ∙ are) in
      let within : was.plan ≡ plan = ap (λ (k : KeysState). k.plan) (sym same) ∙ far.within in
      let answer = keys_answer config under.request was under.done (subst (λ k.
      KeysSoFar config under.request k under.done) same far.so_far) complete kept in
      let text : List ℕ = reply_in was.slots in
      let one : SessionTurn =
      record { item = item.Request under.request; routed = answer.0; text = text } in
      let new : SessionState = replied_by text state in
      let is : IsTurnWithin plan config one (Recorded (Asked under.request) ∷ under.done) =
      turn.at_once under.request under.done far.several refl refl (subst (λ p.
      AnswersAtOnce p config under.request answer.0 text under.done) within answer.1) in
      subst (λ p. IsClientIn (phase_after (step.At p)) plan None config it new)
      (several_go_on under.request answer.1.several)
      (end_turn None new (progress_of under.request) one on.on.base is on.on.emits
      (request_progress under.request state.reading) (ap (λ xs. xs ++ text) far.waits) refl
      (omega arith))

  -- or memory ran out for it
  pub keys_short : {it : Life} {state : SessionState} {was : KeysState}
      → IsClientOpen plan keys config it state → state.work ≡ work.HandedOver
      → keys ≡ Some was → IsComplete was → IsClientShort plan config it (dropped state)
  keys_short {it} {state} {was} s at are complete =
      let on = open_on work.HandedOver s at between_or_handed in
      let under = on.under in
      let base = on.on.base in
      let far : AreKeysPending plan keys config under state.outbox = on.far in
      let same : far.state ≡ was = same_keys (sym far.at ∙ are) in
      let within : was.plan ≡ plan = ap (λ (k : KeysState). k.plan) (sym same) ∙ far.within in
      let so_far : KeysSoFar config under.request was under.done =
      subst (λ k. KeysSoFar config under.request k under.done) same far.so_far in
      let lost : IsCutAtOnce was.plan config under.request under.done = elim (cases_Bool was.lost) [
        | inl short ↦ keys_cut config under.request was under.done so_far complete short
        | inr kept ↦ answers_cut
            (keys_answer config under.request was under.done so_far complete kept).1
      ] in
      let all : Extends under.front state.outbox =
      record { more = []; is = far.waits ∙ sym (append-nil under.front) } in
      record {
        turns = base.turns;
        turned = base.turned;
        left = on.on.left;
        last = Recorded (Asked under.request) ∷ under.done;
        each = base.each;
        at = refl;
        goes_on = base.goes_on;
        gives = base.gives;
        cut = clients.request_cut under.request state.reading on.on.emits
            (turn.cut_at_once under.done far.several refl
            (subst (λ p. IsCutAtOnce p config under.request under.done) within lost));
        text = ap (λ xs. it.sent ++ xs) (taken all on.on.begin) ∙ base.text;
        are = base.are;
        requests = base.counted;
      }
