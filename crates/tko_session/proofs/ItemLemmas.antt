-- How far the next item of a session came after one more call.
use Rattle.std.proofs.Common.{◌≡◌, ℕ, Bool, List, [], ◌∷◌, ◌++◌, map, Ok, refl, sym, ap, subst, ◌∙◌}
use Rattle.std.proofs.Common.{append-nil, arith}
use Rattle.tko_text.specs.declared.request.Request.{Request}
use Rattle.tko_text.specs.declared.request.Request.TheVariants as asked
use Rattle.tko_text.specs.SentRequests.{without_noreply}
use Rattle.tko_links.specs.declared.links.Outcome.{Outcome}
use Rattle.tko_pools.specs.Configs.{Configuration}
use Rattle.tko_route.specs.Calls.{RoutedCall, came}
use Rattle.tko_route.specs.declared.attempt.Attempt.{Attempt}
use Rattle.tko_route.specs.declared.routing.Stage.{Stage}
use Rattle.tko_route.specs.declared.routing.Stage.TheVariants as stage
use Rattle.tko_reply.specs.Answers.{IsKeyed}
use Rattle.tko_reply.specs.Answers as answers
use Rattle.tko_reply.specs.Interactions.{Interaction, Made, Recorded}
use Rattle.tko_reply.specs.Standing.{SentKey, asking}
use Rattle.tko_reply.specs.TrailEvents.{Asked, Tried}
use Rattle.tko_reply.specs.declared.asking.OneKey.{OneKey}
use Rattle.tko_reply.proofs.DrivingLemmas.{key_begun, key_gone}
use Rattle.tko_reply.proofs.JoiningLemmas.{past_next, past_over}
use Rattle.tko_reply.proofs.StandsLemmas.{IsAnswered, IsAt, Stands, is_first, keyed}
use Rattle.tko_session.specs.Acts.{came_to}
use Rattle.tko_session.specs.Driven.{ItemRead, KeyBegun, KeyPassed, OutcomeTaken, RequestBegun}
use Rattle.tko_session.specs.Driven.{WentOn, WentOnFrom, finished, step_of, went}
use Rattle.tko_session.specs.Driven as driven
use Rattle.tko_session.specs.SessionState.{SessionState, progress_of}
use Rattle.tko_session.specs.Working.{Between}
use Rattle.tko_session.specs.declared.step.Progress.{Progress}
use Rattle.tko_session.specs.declared.step.Progress.TheVariants as progress
use Rattle.tko_session.specs.declared.step.Step.{Step}
use Rattle.tko_session.specs.declared.step.Step.TheVariants as step
use Rattle.tko_session.proofs.SoFarLemmas.{asks_keyed, of_at}
use Rattle.tko_session.proofs.ItemStateLemmas.{IsAskedAt, IsFor, IsItem, IsItemAt, IsOutAt}
use Rattle.tko_session.proofs.ItemStateLemmas.{IsPastAt, IsTakenAt, IsTriedAt, refused, replied}
use Rattle.tko_session.proofs.ItemStateLemmas.{undecided}

-- a request that is asked for by its keys does not end the session
pub keyed_goes_on : (request : Request) → IsKeyed request → progress_of request ≡ progress.More
keyed_goes_on (asked.Get keys) by_key = refl
keyed_goes_on (asked.Gets keys) by_key = refl
keyed_goes_on (asked.Store verb entry noreply) by_key = refl
keyed_goes_on (asked.Cas entry unique noreply) by_key = refl
keyed_goes_on (asked.Delete key noreply) by_key = refl
keyed_goes_on (asked.Incr key amount noreply) by_key = refl
keyed_goes_on (asked.Decr key amount noreply) by_key = refl
keyed_goes_on (asked.Touch key expiry noreply) by_key = refl
keyed_goes_on asked.Version by_key = absurd by_key
keyed_goes_on asked.Quit by_key = absurd by_key
keyed_goes_on asked.StatsTko by_key = absurd by_key

-- what was done once this was done too
more_are : {done was : List Interaction} {it : Request} (more : List Interaction)
    → done ≡ Recorded (Asked it) ∷ was → done ++ more ≡ Recorded (Asked it) ∷ (was ++ more)
more_are more are = ap (λ ds. ds ++ more) are

module _ {config : Configuration} {old : SessionState} {owes : Bool} where
  -- a call said this, and left the session so
  said_so : {done : List Interaction} {said said' : Step} {new new' : SessionState} → said ≡ said'
      → new ≡ new' → IsItemAt config old owes done said' new'
      → IsItem config old owes done said new
  said_so {done} {said} {said'} {new} {new'} e f is =
      subst (λ s. IsItem config old owes done s new) (sym e)
      (subst (λ n. IsItem config old owes done said' n) (sym f) (record { on = is }))

  -- the answer came so far
  pub key_item : {it : Request} {was done : List Interaction} {now : SessionState}
      {said : Step} {new : SessionState} (at : Stage) (one : OneKey) (targets outbox : List ℕ)
      → done ≡ Recorded (Asked it) ∷ was
      → IsKeyed it → IsFor old it owes now
      → Stands config it old.outbox at one targets was outbox → said ≡ step_of at
      → new ≡ went at one (record now { outbox = outbox; targets = targets })
      → IsItem config old owes done said new
  key_item {it} {was} (stage.Away clear awaited) one targets outbox are by_key under stands says
      is = said_so says is (
        asking awaited one,
        record {
          it = it;
          was = was;
          are = are;
          under = record {
            emits = under.emits;
            begin = under.begin;
            requests = under.requests;
            owed = under.owed;
          };
          by_key = by_key;
          at = refl;
          stands = stands;
        },
      )
  key_item {it} {was} (stage.Done trail) one targets outbox are by_key under stands says is =
      said_so says is (record {
        it = it;
        was = was;
        are = are;
        under = record {
          emits = under.emits;
          begin = under.begin;
          requests = under.requests;
          owed = under.owed;
        };
        by_key = by_key;
        one = one;
        at = refl;
        stands = stands;
      })

  -- a key was asked for
  begun_item : {it : Request} {was done : List Interaction} {key : List ℕ} {one : OneKey}
      {now : SessionState} {calls : List RoutedCall} {said : Step} {new : SessionState}
      → done ≡ Recorded (Asked it) ∷ was
      → IsFor old it owes now → IsAt config it old.outbox key one was now.outbox
      → KeyBegun config one now calls said new
      → IsItem config old owes (done ++ map Made calls) said new
  begun_item {key = key} {calls = calls} {new = new} are under at begun =
      key_item begun.at begun.key new.targets new.outbox (more_are (map Made calls) are)
      (asks_keyed (of_at at).asks) under
      (key_begun at (begun.targets key (keyed at)) begun.goes) begun.says begun.state

  -- the reply is complete
  answered_item : {it : Request} {was done : List Interaction} {now : SessionState} {said : Step}
      {new : SessionState} (outbox : List ℕ) (at : Progress) → done ≡ Recorded (Asked it) ∷ was
      → IsFor old it owes now → IsAnswered config it old.outbox was outbox → at ≡ progress_of it
      → said ≡ step.At at → new ≡ finished (record now { outbox = outbox })
      → IsItem config old owes done said new
  answered_item {it} {was} outbox at are under done same says is =
      said_so says is (replied (record {
        it = it;
        was = was;
        are = are;
        emits = under.emits;
        says = same;
        answered = done;
        requests = omega (arith, under.requests);
        owed = under.owed;
        between = refl;
      }))

  -- the request that was recorded was begun
  request_item : {it : Request} {done : List Interaction} {now : SessionState}
      {calls : List RoutedCall} {said : Step} {new : SessionState} → done ≡ Recorded (Asked it) ∷ []
      → IsFor old it owes now → now.outbox ≡ old.outbox → RequestBegun config it now calls said new
      → IsItem config old owes (done ++ map Made calls) said new
  request_item {it} {now = now} {calls = calls} are under waits
      (driven.itself text looks is told says same) =
      answered_item (now.outbox ++ text) (progress_of it) (more_are (map Made calls) are) under
      (record {
        routed = [];
        text = text;
        answers = answers.itself looks refl is
            (ap (map Made) told);
        appended = ap (λ xs. xs ++ text) waits;
      }) refl says same
  request_item {it} {now = now} are under waits (driven.by_key one first begun) =
      let at = is_first config now.outbox it one first in
      begun_item are under (subst (λ xs. IsAt config it xs at.0 one [] now.outbox) waits at.1) begun

  pub asked_went : {done : List Interaction} {now : SessionState} {said : Step} {new : SessionState}
      (calls : List RoutedCall) → IsAskedAt old owes done now
      → WentOn config now calls said new → IsItem config old owes (done ++ map Made calls) said new
  asked_went {now = now} {said = said} {new = new} calls asks on =
      request_item asks.are asks.under asks.waits
      (subst (λ w. WentOnFrom config w now calls said new) asks.at on)

  passed_item : {done : List Interaction} {now : SessionState} {calls : List RoutedCall}
      {said : Step} {new : SessionState} → (past : IsPastAt config old owes done now)
      → KeyPassed config past.one now calls said new
      → IsItem config old owes (done ++ map Made calls) said new
  passed_item {done} {now} {calls} {said} {new} past (driven.over ends none says same) =
      subst (λ ds. IsItem config old owes ds said new)
      (sym (ap (λ cs. done ++ map Made cs) none ∙ append-nil done))
      (answered_item new.outbox progress.More past.are past.under (past_over past.stands ends)
      (sym (keyed_goes_on past.it past.by_key)) says same)
  passed_item past (driven.next other ends begun) =
      let at = past_next past.stands ends in
      begun_item past.are past.under at.1 begun

  -- the session went on after a key
  pub past_went : {done : List Interaction} {now : SessionState} {said : Step} {new : SessionState}
      (calls : List RoutedCall) → IsPastAt config old owes done now
      → WentOn config now calls said new → IsItem config old owes (done ++ map Made calls) said new
  past_went {now = now} {said = said} {new = new} calls past on =
      passed_item past (subst (λ w. WentOnFrom config w now calls said new) past.at on)

  -- what came of a send was recorded
  pub out_took : {done : List Interaction} {clear : ℕ} {sent : SentKey} {now : SessionState}
      {got : Outcome} {calls : List RoutedCall} {said : Step} {new : SessionState}
      → IsOutAt config old owes done clear sent now
      → OutcomeTaken config sent got now calls said new
      → IsItem config old owes (done ++ came_to sent (Ok got) ∷ map Made calls) said new
  out_took {sent = sent} {now = now} {got = got} {calls = calls} {new = new} out taken =
      let sending = out.stands in
      let call = came sent.awaited.server sent.key.request (Ok got) in
      let goes = taken.goes (without_noreply sending.first.request) sending.calls
      (ap (λ (o : OneKey). o.request) sending.keeps) sending.reached.2 in
      key_item taken.at taken.key now.targets new.outbox
      (more_are (map Made (call ∷ calls)) out.are) out.by_key out.under
      (key_gone (call ∷ calls) sending goes) taken.says taken.state

  -- the trail of a key was recorded
  pub tried_past : {done : List Interaction} {trail : List Attempt} {now : SessionState}
      → IsTriedAt config old owes done trail now
      → IsPastAt config old owes (done ++ Recorded (Tried trail) ∷ []) now
  tried_past {trail = trail} tried = record {
    it = tried.it;
    was = tried.was ++ Recorded (Tried trail) ∷ [];
    are = more_are (Recorded (Tried trail) ∷ []) tried.are;
    under = tried.under;
    by_key = tried.by_key;
    one = tried.one;
    at = tried.at;
    stands = tried.stands.past;
  }

-- the request that was read was recorded
pub taken_asked : {old now : SessionState} → (taken : IsTakenAt old now)
    → IsAskedAt old now.owes (Recorded (Asked taken.it) ∷ []) now
taken_asked taken = record {
  it = taken.it;
  are = refl;
  under = record {
    emits = taken.emits;
    begin = ap (λ (s : SessionState). s.begin) taken.state;
    requests = ap (λ (s : SessionState). s.requests) taken.state;
    owed = refl;
  };
  at = ap (λ (s : SessionState). s.work) taken.state;
  waits = ap (λ (s : SessionState). s.outbox) taken.state;
}

item_read : {config : Configuration} {old : SessionState} {owes : Bool} {said : Step}
    {new : SessionState} → ItemRead old said new → IsItem config old owes [] said new
item_read {config} {old} {owes} {said} {new} (driven.none needs says same) =
    subst (λ s. IsItem config old owes [] s new) (sym says)
    (record { on = undecided needs refl refl same })
item_read {config} {old} {owes} {said} {new} (driven.refused fault emits says same) =
    subst (λ s. IsItem config old owes [] s new) (sym says)
    (record { on = refused fault emits refl refl same })
item_read {config} {old} {owes} {said} {new} (driven.asked it emits says same) =
    subst (λ s. IsItem config old owes [] s new) (sym says)
    (record { on = (refl, record { it = it; emits = emits; state = same }) })

-- the next item was read
pub read_went : {config : Configuration} {old : SessionState} (owes : Bool)
    (calls : List RoutedCall) {said : Step} {new : SessionState} → old.work ≡ Between
    → WentOn config old calls said new → IsItem config old owes (map Made calls) said new
read_went {config} {old} owes calls {said} {new} idle on =
    let read = subst (λ w. WentOnFrom config w old calls said new) idle on in
    subst (λ cs. IsItem config old owes (map Made cs) said new) (sym read.0) (item_read read.1)
