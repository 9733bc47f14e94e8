-- What each call of a session makes of its fields.
use Rattle.std.proofs.Common.{◌≡◌, ℕ, Bool, Some, List, [], ◌++◌, map, take, refl, sym, ap, subst}
use Rattle.std.proofs.Common.{◌∙◌}
use Rattle.std.specs.Prelude.{IsSome}
use Rattle.std.proofs.lemmas.List.{map-append}
use Rattle.tko_model.specs.Records.{HealthItem}
use Rattle.tko_model.proofs.RecordLemmas.{gains_append, gains_none}
use Rattle.tko_text.specs.Reading.{Reading}
use Rattle.tko_text.specs.SentRequests.{without_noreply}
use Rattle.tko_links.specs.declared.links.Outcome.{Outcome}
use Rattle.tko_pools.specs.Configs.{AreServers, Configuration}
use Rattle.tko_route.specs.Calls.{RoutedCall, Told}
use Rattle.tko_route.specs.Routing.{GoesOn}
use Rattle.tko_route.specs.Trail.{form_at}
use Rattle.tko_route.specs.declared.attempt.Attempt.{Attempt}
use Rattle.tko_route.specs.declared.routing.Stage.{Stage}
use Rattle.tko_reply.specs.Asking.{Goes, GoesTo, course_of}
use Rattle.tko_reply.specs.Cuts.{EndsBy, KeyLost}
use Rattle.tko_reply.specs.Sends.{AfterSend}
use Rattle.tko_reply.specs.Standing.{SentKey}
use Rattle.tko_reply.specs.declared.asking.OneKey.{OneKey}
use Rattle.tko_session.specs.Driven.{KeyBegun, KeyDropped, OutcomeDropped, OutcomeTaken, dropped}
use Rattle.tko_session.specs.Driven.{step_of, work_of}
use Rattle.tko_session.specs.SessionState.{SessionState}
use Rattle.tko_session.specs.Working.{key_in, key_work}
use Rattle.tko_session.specs.Working as work
use Rattle.tko_session.specs.declared.session.KeyWait.{KeyWait}
use Rattle.tko_session.specs.declared.session.KeyWait.TheVariants as wait
use Rattle.tko_session.specs.declared.step.Step.{Step}

module _ {H : Type 0} {steps : H → HealthItem → H → Type 0} {old new : H}
    {P Q : List RoutedCall → Type 0} where
  -- what follows from what holds of the calls
  pub going : GoesOn steps old P new → ((calls : List RoutedCall) → P calls → Q calls)
      → GoesOn steps old Q new
  going on then = record { items = on.items; gains = on.gains; is = then (map Told on.items) on.is }

module _ {H : Type 0} {steps : H → HealthItem → H → Type 0} {old mid new : H}
    {P Q R : List RoutedCall → Type 0} where
  -- some calls and then more
  pub going_then : GoesOn steps old P mid → GoesOn steps mid Q new → ((calls more : List RoutedCall)
      → P calls → Q more → R (calls ++ more)) → GoesOn steps old R new
  going_then front back then = record {
    items = front.items ++ back.items;
    gains = gains_append front.gains back.gains;
    is = subst R (sym (map-append Told front.items back.items))
        (then (map Told front.items) (map Told back.items) front.is back.is);
  }

module _ {H : Type 0} {steps : H → HealthItem → H → Type 0} {P : List RoutedCall → Type 0} where
  -- no call at all
  pub going_none : (health : H) → P [] → GoesOn steps health P health
  going_none health is = record { items = []; gains = gains_none health; is = is }

-- the key that is at work
pub key_of_work : (key : OneKey) (at : KeyWait) → key_in (key_work key at) ≡ Some key
key_of_work key wait.Read = refl
key_of_work key (wait.Sent awaited) = refl
key_of_work key wait.Tried = refl

-- one send is out
pub awaits_same : (it other : SentKey) → work.Awaits it ≡ work.Awaits other → it ≡ other
awaits_same it other same = cc

pub read_work : (key : OneKey) (at : KeyWait) → IsSome (work.request_read_in (key_work key at))
    → key_work key at ≡ work.Read key
read_work key wait.Read some = refl
read_work key (wait.Sent awaited) some = absurd (cc some)
read_work key wait.Tried some = absurd (cc some)

pub ended_work : (key : OneKey) (at : KeyWait) → IsSome (work.ended_in (key_work key at))
    → key_work key at ≡ work.Ended key
ended_work key wait.Read some = absurd (cc some)
ended_work key (wait.Sent awaited) some = absurd (cc some)
ended_work key wait.Tried some = refl

-- the session after a call, field by field
abbrev is_went : Stage → OneKey → Reading → List ℕ → ℕ → Bool → ℕ → List ℕ → SessionState
is_went at key reading outbox requests owes begin targets = record {
  reading = reading;
  outbox = outbox;
  requests = requests;
  owes = owes;
  work = work_of at key;
  begin = begin;
  targets = targets;
}

module _ {config : Configuration} where
  -- a key was asked for
  pub key_begun : {old new : SessionState} {said : Step} (one : OneKey) (at : Stage) (key : OneKey)
      (calls : List RoutedCall)
      (front : List ℕ) (reading : Reading) (outbox : List ℕ) (requests : ℕ) (owes : Bool)
      (begin : ℕ) (targets : List ℕ)
      → Goes (course_of config targets one (without_noreply one.request)) calls front at key outbox
      → GoesTo config one.request targets → AreServers config targets
      → said ≡ step_of at → new ≡ is_went at key reading outbox requests owes begin targets
      → front ≡ old.outbox → reading ≡ old.reading → requests ≡ old.requests → owes ≡ old.owes
      → begin ≡ old.begin
      → KeyBegun config one old calls said new
  key_begun {old} {new} one at key calls front reading outbox requests owes begin targets goes aims
      within says is waits reads counts owed begins =
      let o : new.outbox ≡ outbox = ap (λ (s : SessionState). s.outbox) is in
      let t : new.targets ≡ targets = ap (λ (s : SessionState). s.targets) is in
      let P : List ℕ → List ℕ → List ℕ → Type 0 = λ xs ts ys.
      Goes (course_of config ts one (without_noreply one.request)) calls xs at key ys in
      record {
        at = at;
        key = key;
        goes = subst (λ xs. P xs new.targets new.outbox) waits (subst (λ ts. P front ts new.outbox)
            (sym t) (subst (λ ys. P front targets ys) (sym o) goes));
        targets = subst (GoesTo config one.request) (sym t) aims;
        within = subst (AreServers config) (sym t) within;
        says = says;
        state = is ∙ rw (reads, counts, owed, begins, o, t) refl;
      }

  -- memory ran out there
  pub key_dropped : {old new : SessionState} {attempts' : List Attempt} (one : OneKey)
      (calls : List RoutedCall) (attempts : List Attempt) (targets : List ℕ)
      → KeyLost config one.request calls attempts → attempts' ≡ attempts
      → new ≡ record (dropped old) { targets = targets }
      → KeyDropped config one old calls attempts' new
  key_dropped {old} {new} one calls attempts targets lost same is = record {
    lost = subst (KeyLost config one.request calls) (sym same) lost;
    state = is ∙ ap (λ ts. record (dropped old) { targets = ts })
        (sym (ap (λ (s : SessionState). s.targets) is));
  }

  -- what came of a send was recorded
  pub outcome_taken : {old new : SessionState} {said : Step} (outcome : Outcome) (it : SentKey)
      (at : Stage) (key : OneKey) (calls : List RoutedCall)
      (aimed front : List ℕ) (reading : Reading) (outbox : List ℕ) (requests : ℕ) (owes : Bool)
      (begin : ℕ) (targets : List ℕ)
      → AfterSend config it outcome (λ original before.
      Goes (course_of config aimed it.key original) (before calls) front at key outbox)
      → said ≡ step_of at → new ≡ is_went at key reading outbox requests owes begin targets
      → aimed ≡ old.targets → front ≡ old.outbox → reading ≡ old.reading → requests ≡ old.requests
      → owes ≡ old.owes → begin ≡ old.begin
      → targets ≡ old.targets → OutcomeTaken config it outcome old calls said new
  outcome_taken {old} {new} outcome it at key calls aimed front reading outbox requests owes begin
      targets goes says is aims waits reads counts owed begins same =
      let o : new.outbox ≡ outbox = ap (λ (s : SessionState). s.outbox) is in
      let P : List ℕ → List ℕ → List ℕ → Type 0 = λ ts xs ys.
      AfterSend config it outcome (λ original before.
      Goes (course_of config ts it.key original) (before calls) xs at key ys) in
      record {
        at = at;
        key = key;
        goes =
            subst (λ ts. P ts old.outbox new.outbox) aims
            (subst (λ xs. P aimed xs new.outbox) waits
            (subst (λ ys. P aimed front ys) (sym o) goes));
        says = says;
        state = is ∙ rw (reads, counts, owed, begins, same, o) refl;
      }

  -- memory ran out there
  pub outcome_dropped : {old new : SessionState} {attempts' : List Attempt} (outcome : Outcome)
      (it : SentKey) (calls : List RoutedCall) (attempts : List Attempt) (aimed : List ℕ)
      → AfterSend config it outcome (λ original before.
      EndsBy aimed (form_at config.failover_exptime original) (before calls) attempts)
      → attempts' ≡ attempts → aimed ≡ old.targets → new ≡ dropped old
      → OutcomeDropped config it outcome old calls attempts' new
  outcome_dropped {old} {attempts' = attempts'} outcome it calls attempts aimed lost same aims is =
      let P : List ℕ → List Attempt → Type 0 = λ ts marked.
      AfterSend config it outcome (λ original before.
      EndsBy ts (form_at config.failover_exptime original) (before calls) marked) in
      record {
        lost = subst (λ ts. P ts attempts') aims (subst (P aimed) (sym same) lost);
        state = is;
      }

-- a request was dropped at one of its keys
pub dropped_again : (old : SessionState) (reading : Reading) (outbox : List ℕ) (requests : ℕ)
    (owes : Bool) (begin : ℕ) (targets : List ℕ)
    → take begin outbox ≡ take old.begin old.outbox → reading ≡ old.reading
    → requests ≡ old.requests → owes ≡ old.owes → begin ≡ old.begin
    → record {
      reading = reading;
      outbox = take begin outbox;
      requests = requests;
      owes = owes;
      work = work.Between;
      begin = begin;
      targets = targets;
    }
    ≡ record (dropped old) { targets = targets }
dropped_again old reading outbox requests owes begin targets left reads counts owed begins =
    rw (left, reads, counts, owed, begins) refl
