-- How far the next item of a session came where memory ran out.
use Rattle.std.proofs.Common.{◌≡◌, ℕ, Bool, List, [], ◌∷◌, ◌++◌, map, take, Ok, Err, refl, sym, ap}
use Rattle.std.proofs.Common.{subst, ◌∙◌, append-nil}
use Rattle.tko_text.specs.declared.item.Item.TheVariants as item
use Rattle.tko_text.specs.declared.request.Request.{Request}
use Rattle.tko_text.specs.Reading.{Emits}
use Rattle.tko_text.specs.SentRequests.{without_noreply}
use Rattle.tko_links.specs.declared.links.Outcome.{Outcome}
use Rattle.tko_pools.specs.Configs.{Configuration}
use Rattle.tko_route.specs.Calls.{RoutedCall, came}
use Rattle.tko_route.specs.Trail.{MakesTrail}
use Rattle.tko_route.specs.declared.attempt.Attempt.{Attempt}
use Rattle.tko_reply.specs.Answering.{Extends}
use Rattle.tko_reply.specs.Answers.{form_in}
use Rattle.tko_reply.specs.Cuts.{IsAnswerCut}
use Rattle.tko_reply.specs.Interactions.{Interaction, Made, Noted, Recorded, marks_of}
use Rattle.tko_reply.specs.Standing.{SentKey}
use Rattle.tko_reply.specs.TrailEvents.{Asked}
use Rattle.tko_reply.specs.declared.asking.OneKey.{OneKey}
use Rattle.tko_reply.proofs.CutLemmas.{begin_cut, gone_cut, past_cut, sent_cut, tried_cut}
use Rattle.tko_reply.proofs.JoiningLemmas.{past_next}
use Rattle.tko_reply.proofs.StandsLemmas.{IsAt, at_extends, is_first, past_extends}
use Rattle.tko_session.specs.Acts.{came_to}
use Rattle.tko_session.specs.Driven.{KeyDropped, OutcomeDropped, PassDropped, RequestDropped}
use Rattle.tko_session.specs.Driven.{WasDropped, WasDroppedFrom, dropped}
use Rattle.tko_session.specs.Driven as driven
use Rattle.tko_session.specs.SessionState.{SessionState}
use Rattle.tko_session.specs.Turns.{IsRequestCut}
use Rattle.tko_session.specs.Turns as turn
use Rattle.tko_session.specs.Working.{Between}
use Rattle.tko_session.proofs.ItemStateLemmas.{IsAskedAt, IsFor, IsOutAt, IsPastAt, IsTakenAt}
use Rattle.tko_session.proofs.ItemStateLemmas.{IsTriedAt}
use Rattle.tko_session.proofs.KeyCutLemmas.{key_lost, marked, no_call_after, no_calls, taken}

-- nothing is left of the reply to the item that was dropped
pub record IsAsBefore (old new : SessionState) : Type 0 where
  pub waits : new.outbox ≡ old.outbox
  pub requests : new.requests ≡ old.requests
  pub between : new.work ≡ Between

-- memory ran out as the next item was read; or it is a request, for which this was done
pub data IsCutAt (config : Configuration) (old : SessionState) (owes : Bool)
    (done : List Interaction) (new : SessionState) : Type 0 where
  unasked : done ≡ [] → new.owes ≡ old.owes → IsAsBefore old new → IsCutAt config old owes done new
  request_cut : (it : Request) (now : SessionState)
      → Emits old.reading (item.Request it) now.reading → IsRequestCut config it done
      → new.owes ≡ owes
      → IsAsBefore old new → IsCutAt config old owes done new

module _ {config : Configuration} {old : SessionState} {owes : Bool} where
  -- the request under way was dropped
  drop_item : {it : Request} {was done : List Interaction} {now : SessionState}
      (more : List Interaction) (outbox : List ℕ) (new : SessionState)
      → done ≡ Recorded (Asked it) ∷ was
      → IsFor old it owes now → Extends old.outbox outbox → IsAnswerCut config it (was ++ more)
      → new.outbox ≡ take now.begin outbox → new.work ≡ Between → new.requests ≡ now.requests
      → new.owes ≡ now.owes
      → IsCutAt config old owes (done ++ more) new
  drop_item {it} {was} {done} {now} more outbox new are under extends lost left between
      counts owed =
      request_cut it now under.emits (turn.recorded (was ++ more) (ap (λ ds. ds ++ more) are) lost)
      (owed ∙ under.owed)
      (record {
        waits = left ∙ taken extends under.begin;
        requests = counts ∙ under.requests;
        between = between;
      })

  -- where the session drops it, and nothing else
  dropped_item : {it : Request} {was done : List Interaction} {now : SessionState}
      (more : List Interaction) (outbox : List ℕ) (new : SessionState)
      → done ≡ Recorded (Asked it) ∷ was
      → IsFor old it owes now → Extends old.outbox outbox → IsAnswerCut config it (was ++ more)
      → outbox ≡ now.outbox → new ≡ dropped now
      → IsCutAt config old owes (done ++ more) new
  dropped_item {now = now} more outbox new are under extends lost waits same =
      drop_item more outbox new are under extends lost
      (ap (λ (s : SessionState). s.outbox) same ∙ ap (take now.begin) (sym waits))
      (ap (λ (s : SessionState). s.work) same)
      (ap (λ (s : SessionState). s.requests) same) (ap (λ (s : SessionState). s.owes) same)

  key_cut_at : {it : Request} {was done : List Interaction} {key : List ℕ} {one : OneKey}
      {now : SessionState} {calls : List RoutedCall} {attempts : List Attempt} {new : SessionState}
      → done ≡ Recorded (Asked it) ∷ was
      → IsFor old it owes now → IsAt config it old.outbox key one was now.outbox
      → KeyDropped config one now calls attempts new
      → IsCutAt config old owes (done ++ (map Made calls ++ marks_of attempts)) new
  key_cut_at {now = now} {calls = calls} {attempts = attempts} {new = new} are under at lost =
      drop_item (map Made calls ++ marks_of attempts) now.outbox new are under (at_extends at)
      (key_lost attempts at lost.lost)
      (ap (λ (s : SessionState). s.outbox) lost.state)
      (ap (λ (s : SessionState). s.work) lost.state)
      (ap (λ (s : SessionState). s.requests) lost.state)
      (ap (λ (s : SessionState). s.owes) lost.state)

  -- where the request that was recorded was begun
  request_cut_at : {it : Request} {done : List Interaction}
      {now : SessionState} {calls : List RoutedCall} {attempts : List Attempt} {new : SessionState}
      → done ≡ Recorded (Asked it) ∷ []
      → IsFor old it owes now → now.outbox ≡ old.outbox
      → RequestDropped config it now calls attempts new
      → IsCutAt config old owes (done ++ (map Made calls ++ marks_of attempts)) new
  request_cut_at {it} {done} {now} {calls} {attempts} {new} are under waits
      (driven.unkeyed begins nobody is) =
      let all : Extends old.outbox now.outbox =
      record { more = []; is = waits ∙ sym (append-nil old.outbox) } in
      subst (λ marked. IsCutAt config old owes (done ++ (map Made calls ++ marks_of marked)) new)
      (sym nobody)
      (dropped_item (map Made calls ++ []) now.outbox new are under all
      (subst (IsAnswerCut config it) (sym (append-nil (map Made calls))) (begin_cut begins)) refl
      is)
  request_cut_at {it} {now = now} are under waits (driven.at_key one first lost) =
      let at = is_first config now.outbox it one first in
      key_cut_at are under (subst (λ xs. IsAt config it xs at.0 one [] now.outbox) waits at.1) lost

  pub asked_cut : {done : List Interaction} {now : SessionState} {new : SessionState}
      (calls : List RoutedCall) (attempts : List Attempt) → IsAskedAt old owes done now
      → WasDropped config now calls attempts new
      → IsCutAt config old owes (done ++ (map Made calls ++ marks_of attempts)) new
  asked_cut {now = now} {new = new} calls attempts asks lost =
      request_cut_at asks.are asks.under asks.waits
      (subst (λ w. WasDroppedFrom config w now calls attempts new) asks.at lost)

  passed_cut_at : {done : List Interaction} {now : SessionState} {calls : List RoutedCall}
      {attempts : List Attempt} {new : SessionState} → (past : IsPastAt config old owes done now)
      → PassDropped config past.one now calls attempts new
      → IsCutAt config old owes (done ++ (map Made calls ++ marks_of attempts)) new
  passed_cut_at {done} {now} {calls} {attempts} {new} past (driven.unpassed joined none nobody is) =
      subst (λ cs. IsCutAt config old owes (done ++ (map Made cs ++ marks_of attempts)) new)
      (sym none)
      (subst (λ marked. IsCutAt config old owes (done ++ marks_of marked) new) (sym nobody)
      (dropped_item [] now.outbox new past.are past.under (past_extends past.stands)
      (subst (IsAnswerCut config past.it) (sym (append-nil past.was)) (past_cut past.stands joined))
      refl is))
  passed_cut_at past (driven.at_next other ends lost) =
      let at = past_next past.stands ends in
      key_cut_at past.are past.under at.1 lost

  -- where the session went on after a key
  pub past_cut_at : {done : List Interaction} {now : SessionState} {new : SessionState}
      (calls : List RoutedCall) (attempts : List Attempt) → IsPastAt config old owes done now
      → WasDropped config now calls attempts new
      → IsCutAt config old owes (done ++ (map Made calls ++ marks_of attempts)) new
  past_cut_at {now = now} {new = new} calls attempts past lost =
      passed_cut_at past (subst (λ w. WasDroppedFrom config w now calls attempts new) past.at lost)

  -- where what came of a send was recorded
  pub out_cut : {done : List Interaction} {clear : ℕ} {sent : SentKey} {now : SessionState}
      {got : Outcome} {calls : List RoutedCall} {attempts : List Attempt} {new : SessionState}
      → IsOutAt config old owes done clear sent now
      → OutcomeDropped config sent got now calls attempts new
      → IsCutAt config old owes
      (done ++ came_to sent (Ok got) ∷ (map Made calls ++ marks_of attempts)) new
  out_cut {sent = sent} {now = now} {got = got} {calls = calls} {attempts = attempts}
      {new = new} out gone =
      let sending = out.stands in
      let call = came sent.awaited.server sent.key.request (Ok got) in
      let form = form_in config sending.first.request in
      let ends = gone.lost (without_noreply sending.first.request) sending.calls
      (ap (λ (o : OneKey). o.request) sending.keeps) sending.reached.2 in
      let lost = gone_cut sending ends in
      dropped_item (map Made (call ∷ calls) ++ marks_of attempts) now.outbox new out.are out.under
      (at_extends sending.at)
      (marked attempts
      (λ nobody. let make : MakesTrail form (sending.calls ++ call ∷ calls) [] = subst (λ trail.
      MakesTrail form (sending.calls ++ call ∷ calls) trail) nobody ends.make in
      absurd (no_call_after sending.calls call calls
      (no_calls form (sending.calls ++ call ∷ calls) make))) lost lost.noted) refl gone.state

  -- at the send
  pub out_stopped : {done : List Interaction} {clear : ℕ} {sent : SentKey} {now new : SessionState}
      (was_sent : Bool)
      → IsOutAt config old owes done clear sent now → new ≡ dropped now
      → IsCutAt config old owes (done
      ++ came_to sent (Err (record { sent = was_sent })) ∷ Noted sent.awaited.attempts ∷ []) new
  out_stopped {sent = sent} {now = now} {new = new} was_sent out same =
      dropped_item (came_to sent (Err (record { sent = was_sent })) ∷ Noted sent.awaited.attempts
      ∷ []) now.outbox new out.are out.under (at_extends out.stands.at)
      (sent_cut was_sent out.stands) refl same

  -- where the trail of a key could not be recorded
  pub tried_lost : {done : List Interaction} {trail : List Attempt} {now new : SessionState}
      → IsTriedAt config old owes done trail now → new ≡ dropped now
      → IsCutAt config old owes (done ++ Noted trail ∷ []) new
  tried_lost {trail = trail} {now = now} {new = new} tried same =
      dropped_item (Noted trail ∷ []) now.outbox new tried.are tried.under
      (past_extends tried.stands.past) (tried_cut tried.stands) refl same

-- where the request that was read could not be recorded
pub taken_lost : {config : Configuration} {old now new : SessionState} → IsTakenAt old now
    → new ≡ dropped now → IsCutAt config old now.owes [] new
taken_lost {old = old} {now = now} taken_at same =
    let all : Extends old.outbox now.outbox = record {
      more = [];
      is = ap (λ (s : SessionState). s.outbox) taken_at.state ∙ sym (append-nil old.outbox);
    } in
    request_cut taken_at.it now taken_at.emits (turn.unrecorded refl)
    (ap (λ (s : SessionState). s.owes) same)
    (record {
      waits = ap (λ (s : SessionState). s.outbox) same
          ∙ taken all (ap (λ (s : SessionState). s.begin) taken_at.state);
      requests = ap (λ (s : SessionState). s.requests) same
          ∙ ap (λ (s : SessionState). s.requests) taken_at.state;
      between = ap (λ (s : SessionState). s.work) same;
    })

-- where the next item was read
pub read_cut_at : {config : Configuration} {old : SessionState} {new : SessionState} (owes : Bool)
    (calls : List RoutedCall) (attempts : List Attempt) → old.work ≡ Between
    → WasDropped config old calls attempts new
    → IsCutAt config old owes (map Made calls ++ marks_of attempts) new
read_cut_at {config} {old} {new} owes calls attempts idle lost =
    let read = subst (λ w. WasDroppedFrom config w old calls attempts new) idle lost in
    let only = read.2.only_read in
    subst (λ cs. IsCutAt config old owes (map Made cs ++ marks_of attempts) new) (sym read.0)
    (subst (λ marked. IsCutAt config old owes (marks_of marked) new) (sym read.1)
    (unasked refl (ap (λ (s : SessionState). s.owes) only)
    (record {
      waits = ap (λ (s : SessionState). s.outbox) only;
      requests = ap (λ (s : SessionState). s.requests) only;
      between = ap (λ (s : SessionState). s.work) only ∙ idle;
    })))
