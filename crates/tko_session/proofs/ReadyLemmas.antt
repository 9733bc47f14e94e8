-- What each call of a session leaves for the next one, and how a call goes on from what it is at.
use Rattle.std.proofs.Common.{◌≡◌, ℕ, Bool, false, true, List, [], ◌++◌, length, take, refl, sym}
use Rattle.std.proofs.Common.{ap, subst, ◌∙◌, append-nil, true≢false}
use Rattle.tko_model.specs.Records.{HealthItem}
use Rattle.tko_model.proofs.RecordLemmas.{gains_none}
use Rattle.tko_text.specs.SentRequests.{without_noreply}
use Rattle.tko_links.specs.declared.links.Outcome.{Outcome}
use Rattle.tko_pools.specs.Configs.{Configuration}
use Rattle.tko_route.specs.Calls.{RoutedCall}
use Rattle.tko_route.specs.Routing.{GoesOn}
use Rattle.tko_route.specs.declared.attempt.Attempt.{Attempt}
use Rattle.tko_route.specs.declared.routing.Stage.{Stage}
use Rattle.tko_route.specs.declared.routing.Stage.TheVariants as stage
use Rattle.tko_reply.specs.Answering.{Extends}
use Rattle.tko_reply.specs.Asking.{BeginsAnswer, BeginsAt, ContinuesKeys, IsJoined}
use Rattle.tko_reply.specs.Asking as asked
use Rattle.tko_reply.specs.Cuts.{IsBeginCut}
use Rattle.tko_reply.specs.Standing.{SentKey}
use Rattle.tko_reply.specs.declared.asking.OneKey.{OneKey}
use Rattle.tko_reply.proofs.HeldLemmas.{AwaitsAt, first_held, goes_awaits, goes_held, next_held}
use Rattle.tko_session.specs.Driven.{IsReadyFor, IsSendOut, IsSessionReady, ItemRead, KeyBegun}
use Rattle.tko_session.specs.Driven.{KeyDropped, OutcomeTaken, WasDropped, WasDroppedFrom, WentOn}
use Rattle.tko_session.specs.Driven.{WentOnFrom, dropped, finished, went}
use Rattle.tko_session.specs.Driven as driven
use Rattle.tko_session.specs.SessionState.{SessionState, progress_of}
use Rattle.tko_session.specs.declared.step.Progress.TheVariants as progress
use Rattle.tko_session.specs.declared.step.Step.{Step}
use Rattle.tko_session.specs.declared.step.Step.TheVariants as step
use Rattle.tko_session.specs.Working.{Work}
use Rattle.tko_session.specs.Working as work
use Rattle.tko_session.proofs.KeyCutLemmas.{taken}
use Rattle.tko_session.proofs.BegunLemmas.{begins_first, next_outbox, over_same}

ready_at : (config : Configuration) (state : SessionState) (at : Stage) (one : OneKey)
    → BeginsAt state.begin one.share state.outbox
    → AwaitsAt config state.targets at one → IsSessionReady config (went at one state)
ready_at config state (stage.Away clear awaited) one held awaits =
    record { begins = held; sent = awaits }
ready_at config state (stage.Done trail) one held awaits = held

module _ (config : Configuration) where
  key_ready : {one : OneKey} {old new : SessionState} {calls : List RoutedCall} {said : Step}
      → BeginsAt old.begin one.share old.outbox
      → KeyBegun config one old calls said new → IsSessionReady config new
  key_ready {one} {old} {new} held key =
      let state : SessionState = record old { outbox = new.outbox; targets = new.targets } in
      subst (IsSessionReady config) (sym key.state)
      (ready_at config state key.at key.key
      (goes_held config one (without_noreply one.request) old.begin held key.goes)
      (goes_awaits one config (without_noreply one.request) key.within key.goes))

  pub item_ready : {old new : SessionState} {said : Step} → old.work ≡ work.Between
      → ItemRead old said new → IsSessionReady config new
  item_ready {old} between (driven.none needs says is) =
      subst (IsSessionReady config) (sym is) (subst (IsReadyFor config old) (sym between) tt)
  item_ready {old} {new} between (driven.refused fault emits says is) =
      let state : SessionState = record old { reading = new.reading; outbox = new.outbox } in
      subst (IsReadyFor config new) (sym (ap (λ (s : SessionState). s.work) is ∙ between)) tt
  item_ready between (driven.asked it emits says is) =
      subst (IsSessionReady config) (sym is) (record { whole = refl; begins = refl })

  went_between : {old new : SessionState} {said : Step} → old.work ≡ work.Between
      → ItemRead old said new → WentOn config old [] said new
  went_between {old} {new} {said} is read =
      subst (λ w. WentOnFrom config w old [] said new) (sym is) (refl, read)

  went_ready_from : (old new : SessionState) (calls : List RoutedCall) (said : Step) (at : Work)
      → old.work ≡ at → IsReadyFor config old at
      → WentOnFrom config at old calls said new → IsSessionReady config new
  went_ready_from old new calls said work.Between is ready (none, read) = item_ready is read
  went_ready_from old new calls said (work.Read one) is ready
      (driven.itself text looks itself are says state) =
      subst (IsReadyFor config new) (sym (ap (λ (s : SessionState). s.work) state)) tt
  went_ready_from old new calls said (work.Read one) is ready (driven.by_key other first key) =
      key_ready (first_held old.begin one.request old.outbox other ready.begins first) key
  went_ready_from old new calls said (work.Awaits it) is ready went = absurd went
  went_ready_from old new calls said (work.Ended one) is ready (driven.over on none says state) =
      subst (IsReadyFor config new) (sym (ap (λ (s : SessionState). s.work) state)) tt
  went_ready_from old new calls said (work.Ended one) is ready (driven.next other on key) =
      key_ready (next_held old.begin one other old.outbox old.outbox ready on) key
  went_ready_from old new calls said work.HandedOver is ready went = absurd went

  -- the session is ready for the next call
  pub went_ready : (old new : SessionState) (calls : List RoutedCall) (said : Step)
      → IsSessionReady config old → WentOn config old calls said new → IsSessionReady config new
  went_ready old new calls said ready went =
      went_ready_from old new calls said old.work refl ready went

  pub outcome_ready : {outcome : Outcome} {it : SentKey} {old new : SessionState}
      {calls : List RoutedCall} {said : Step} → IsSendOut config old it
      → OutcomeTaken config it outcome old calls said new → IsSessionReady config new
  outcome_ready {outcome} {it} {old} {new} out taken =
      let sent = out.sent in
      let goes = taken.goes sent.original sent.calls sent.form sent.found in
      let state : SessionState = record old { outbox = new.outbox } in
      subst (IsSessionReady config) (sym taken.state)
      (ready_at config state taken.at taken.key
      (goes_held config it.key sent.original old.begin out.begins goes)
      (goes_awaits it.key config sent.original sent.out.within goes))

  -- a request was begun by its first key
  pub request_keyed : {one other : OneKey} {outbox : List ℕ} {old new : SessionState}
      {calls more : List RoutedCall} {said : Step} {keyed : Bool}
      → old.work ≡ work.Read one → keyed ≡ true
      → BeginsAnswer config one.request old.outbox calls keyed other outbox
      → (outbox ≡ old.outbox → KeyBegun config other old more said new)
      → WentOn config old (calls ++ more) said new
  request_keyed {one} {other} {old = old} {new = new} {calls = calls} {more = more}
      {said = said} is on begins key =
      let first = begins_first on begins in
      subst (λ cs. WentOn config old (cs ++ more) said new) (sym first.2)
      (subst (λ w. WentOnFrom config w old more said new) (sym is)
      (driven.by_key other first.0 (key first.1)))

  pub request_lost : {one other : OneKey} {outbox : List ℕ} {old new : SessionState}
      {calls more : List RoutedCall} {attempts : List Attempt} {keyed : Bool}
      → old.work ≡ work.Read one → keyed ≡ true
      → BeginsAnswer config one.request old.outbox calls keyed other outbox
      → (outbox ≡ old.outbox → KeyDropped config other old more attempts new)
      → WasDropped config old (calls ++ more) attempts new
  request_lost {one} {other} {old = old} {new = new} {calls = calls} {more = more}
      {attempts = attempts} is on begins key =
      let first = begins_first on begins in
      subst (λ cs. WasDropped config old (cs ++ more) attempts new) (sym first.2)
      (subst (λ w. WasDroppedFrom config w old more attempts new) (sym is)
      (driven.at_key other first.0 (key first.1)))

  -- the proxy answered it itself
  pub request_itself : {one other : OneKey} {at : Work} {outbox : List ℕ}
      {old mid new : SessionState} {calls : List RoutedCall} {said : Step} {keyed : Bool}
      → old.work ≡ work.Read one → keyed ≡ false
      → BeginsAnswer config one.request old.outbox calls keyed other outbox
      → mid ≡ record old { outbox = outbox; work = at } → said ≡ step.At (progress_of one.request)
      → new ≡ finished mid → WentOn config old calls said new
  request_itself is over (asked.by_key on first none same) moved says end =
      absurd (true≢false (sym on ∙ over))
  request_itself {one} {at = at} {old = old} {new = new} {calls = calls} {said = said} is over
      (asked.itself text looks over' itself are same) moved says end =
      subst (λ w. WentOnFrom config w old calls said new) (sym is)
      (driven.itself text looks itself are says (end ∙ ap finished moved
      ∙ ap (λ xs. finished (record old { outbox = xs; work = at })) same))

  -- memory ran out before its first key
  pub request_unkeyed : {one : OneKey} {outbox : List ℕ} {old new : SessionState}
      {calls : List RoutedCall} {attempts : List Attempt}
      → old.work ≡ work.Read one → old.begin ≡ length old.outbox → Extends old.outbox outbox
      → IsBeginCut config one.request calls → attempts ≡ []
      → new ≡ record (dropped old) { outbox = take old.begin outbox }
      → WasDropped config old calls attempts new
  request_unkeyed {one} {outbox} {old} {new} {calls} {attempts} is begins more cut none end =
      let nothing : Extends old.outbox old.outbox =
      record { more = []; is = sym (append-nil old.outbox) } in
      subst (λ w. WasDroppedFrom config w old calls attempts new) (sym is)
      (driven.unkeyed cut none (end ∙ ap (λ xs. record (dropped old) { outbox = xs })
      (taken more begins ∙ sym (taken nothing begins))))

  -- after a key the next was asked for
  pub key_passed : {one other : OneKey} {outbox : List ℕ} {old new : SessionState}
      {calls : List RoutedCall} {said : Step} {keyed : Bool}
      → old.work ≡ work.Ended one → keyed ≡ true → ContinuesKeys one old.outbox keyed other outbox
      → (outbox ≡ old.outbox → KeyBegun config other old calls said new)
      → WentOn config old calls said new
  key_passed {one} {other} {outbox} {old} {new} {calls} {said} is on goes key =
      let goes' = subst (λ b. ContinuesKeys one old.outbox b other outbox) on goes in
      let waits = next_outbox goes' in
      subst (λ w. WentOnFrom config w old calls said new) (sym is)
      (driven.next other (subst (λ xs. ContinuesKeys one old.outbox true other xs) waits goes')
      (key waits))

  pub pass_lost : {one other : OneKey} {outbox : List ℕ} {old new : SessionState}
      {calls : List RoutedCall} {attempts : List Attempt} {keyed : Bool}
      → old.work ≡ work.Ended one → keyed ≡ true → ContinuesKeys one old.outbox keyed other outbox
      → (outbox ≡ old.outbox → KeyDropped config other old calls attempts new)
      → WasDropped config old calls attempts new
  pass_lost {one} {other} {outbox} {old} {new} {calls} {attempts} is on goes key =
      let goes' = subst (λ b. ContinuesKeys one old.outbox b other outbox) on goes in
      let waits = next_outbox goes' in
      subst (λ w. WasDroppedFrom config w old calls attempts new) (sym is)
      (driven.at_next other (subst (λ xs. ContinuesKeys one old.outbox true other xs) waits goes')
      (key waits))

  -- or the reply is complete
  pub key_over : {one other : OneKey} {at : Work} {outbox : List ℕ} {old mid new : SessionState}
      {said : Step} {keyed : Bool}
      → old.work ≡ work.Ended one → keyed ≡ false → ContinuesKeys one old.outbox keyed other outbox
      → mid ≡ record old { outbox = outbox; work = at } → said ≡ step.At progress.More
      → new ≡ finished mid → WentOn config old [] said new
  key_over {one} {other} {at} {outbox} {old} {mid} {new} {said} is over goes same says end =
      let goes' = over_same (subst (λ b. ContinuesKeys one old.outbox b other outbox) over goes) in
      let there : new ≡ finished (record old { outbox = outbox }) = end ∙ ap finished same in
      let waits : new.outbox ≡ outbox = ap (λ (s : SessionState). s.outbox) there in
      subst (λ w. WentOnFrom config w old [] said new) (sym is)
      (driven.over (subst (λ xs. ContinuesKeys one old.outbox false one xs) (sym waits) goes') refl
      says
      (there ∙ ap (λ xs. finished (record old { outbox = xs })) (sym waits)))

  -- memory ran out before the next key
  pub pass_unkeyed : {one : OneKey} {outbox : List ℕ} {old new : SessionState}
      {attempts : List Attempt}
      → old.work ≡ work.Ended one → IsJoined one.share → outbox ≡ old.outbox → attempts ≡ []
      → new ≡ record (dropped old) { outbox = take old.begin outbox }
      → WasDropped config old [] attempts new
  pass_unkeyed {one} {outbox} {old} {new} {attempts} is joined same none end =
      subst (λ w. WasDroppedFrom config w old [] attempts new) (sym is)
      (driven.unpassed joined refl none
      (end ∙ ap (λ xs. record (dropped old) { outbox = take old.begin xs }) same))

module _ {H : Type 0} {steps : H → HealthItem → H → Type 0} where
  -- the next item was read
  pub went_item : {old new : SessionState} {said : Step} (config : Configuration) (health : H)
      → old.work ≡ work.Between → ItemRead old said new
      → GoesOn steps health (λ calls. WentOn config old calls said new) health
  went_item config health is read =
      record { items = []; gains = gains_none health; is = went_between config is read }
