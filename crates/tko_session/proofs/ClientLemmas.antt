-- One client's life, call by call: what a call leaves of an open client.
use Rattle.std.proofs.Common.{◌≡◌, List, [], ◌∷◌, ◌++◌, map, Option, Ok, Err, refl, sym, ap, subst}
use Rattle.std.proofs.Common.{◌∙◌}
use Rattle.tko_links.specs.declared.links.Outcome.{Outcome}
use Rattle.tko_pools.specs.Configs.{Configuration}
use Rattle.tko_route.specs.Calls.{RoutedCall}
use Rattle.tko_route.specs.declared.attempt.Attempt.{Attempt}
use Rattle.tko_reply.specs.Interactions.{Interaction, Made, Noted, Recorded, marks_of}
use Rattle.tko_reply.specs.Standing.{SentKey}
use Rattle.tko_reply.specs.TrailEvents.{Asked}
use Rattle.tko_keys.specs.KeysState.{KeysState}
use Rattle.tko_keys.specs.declared.plan.KeyPlan.{KeyPlan}
use Rattle.tko_session.specs.Acts.{IsLoss, IsToRecord, came_to, left_after}
use Rattle.tko_session.specs.Acts as act
use Rattle.tko_session.specs.Clients.{IsClientOpen, IsClientShort, Life}
use Rattle.tko_session.specs.Driven.{AwaitedTaken, MayGoOn, WasDropped, WasDroppedFrom, WentOn}
use Rattle.tko_session.specs.Driven.{WentOnFrom, dropped}
use Rattle.tko_session.specs.SessionState.{SessionState}
use Rattle.tko_session.specs.SoFar.{IsKeyPast, IsSentFor}
use Rattle.tko_session.specs.Working.{Between, Work}
use Rattle.tko_session.specs.Working as work
use Rattle.tko_session.specs.declared.step.Step.{Step}
use Rattle.tko_session.proofs.ItemCutLemmas.{asked_cut, out_cut, out_stopped, past_cut_at}
use Rattle.tko_session.proofs.ItemCutLemmas.{read_cut_at}
use Rattle.tko_session.proofs.ItemLemmas.{asked_went, out_took, past_went, read_went}
use Rattle.tko_session.proofs.ItemStateLemmas.{IsAskedAt, IsFor, IsOutAt, IsPastAt}
use Rattle.tko_session.proofs.LifeLemmas.{between_or_awaits, between_or_ended, between_or_read}
use Rattle.tko_session.proofs.LifeLemmas.{open_idle, open_on}
use Rattle.tko_session.proofs.TurnedLemmas.{IsOnWith, did}
use Rattle.tko_session.proofs.SoFarLemmas.{asks_keyed, past_keyed, to_past, to_sending}
use Rattle.tko_session.proofs.ClientItemLemmas.{Gone, IsFrom, cut_short, item_open, more_from}
use Rattle.tko_session.proofs.ClientItemLemmas.{unrecorded_short}

-- a session that may be called: between two items; or a request of it was recorded; or a key was
-- routed
data MayGo (plan : KeyPlan) (config : Configuration) (it : Life)
    (state : SessionState) : Type 0 where
  idle : IsFrom plan config it state [] → MayGo plan config it state
  asks : (old : SessionState) (last : List Interaction) → IsFrom plan config it old last
      → IsAskedAt old state.owes last state → MayGo plan config it state
  past : (old : SessionState) (last : List Interaction) → IsFrom plan config it old last
      → IsPastAt config old state.owes last state → MayGo plan config it state

-- a send of a session is out
record HasSendOut (plan : KeyPlan) (config : Configuration) (it : Life) (state : SessionState)
    (sent : SentKey) : Type 0 where
  old : SessionState
  last : List Interaction
  from : IsFrom plan config it old last
  out : IsOutAt config old state.owes last sent.awaited.server sent state

module _ {plan : KeyPlan} {keys : Option KeysState} {config : Configuration} where
  -- the session before the request under way was read
  abbrev before : (it : Life) (state : SessionState) (at : Work)
      → IsOnWith plan keys config it state at → SessionState
  before it state at on =
      record state { reading = on.on.left; outbox = on.under.front; work = Between }

  from_on : {it : Life} {state : SessionState} (at : Work)
      → (on : IsOnWith plan keys config it state at) → IsFrom plan config it (before it state at on)
      (Recorded (Asked on.under.request) ∷ on.under.done)
  from_on at on = record { base = on.on.base; idle = refl }

  for_on : {it : Life} {state : SessionState} (at : Work)
      → (on : IsOnWith plan keys config it state at)
      → IsFor (before it state at on) on.under.request state.owes state
  for_on at on = record { emits = on.on.emits; begin = on.on.begin; requests = refl; owed = refl }

  may_go : {it : Life} {state : SessionState} (at : Work) → IsClientOpen plan keys config it state
      → state.work ≡ at → MayGoOn at → MayGo plan config it state
  may_go work.Between s is may = idle (record { base = open_idle s is; idle = is })
  may_go {it} {state} (work.Read one) s is may =
      let on = open_on (work.Read one) s is (between_or_read one) in
      asks (before it state (work.Read one) on) _ (from_on (work.Read one) on)
      (record {
        it = on.under.request;
        are = ap (λ ds. Recorded (Asked on.under.request) ∷ ds) on.far.1;
        under = for_on (work.Read one) on;
        at = is ∙ ap work.Read on.far.0;
        waits = on.far.2;
      })
  may_go (work.Awaits sent) s is may = absurd may
  may_go {it} {state} (work.Ended one) s is may =
      let on = open_on (work.Ended one) s is (between_or_ended one) in
      let far : IsKeyPast config on.under one state.outbox = on.far in
      past (before it state (work.Ended one) on) _ (from_on (work.Ended one) on)
      (record {
        it = on.under.request;
        was = on.under.done;
        are = refl;
        under = for_on (work.Ended one) on;
        by_key = past_keyed far;
        one = one;
        at = is;
        stands = to_past far;
      })
  may_go work.HandedOver s is may = absurd may

  awaited : {it : Life} {state : SessionState} (sent : SentKey)
      → IsClientOpen plan keys config it state → state.work ≡ work.Awaits sent
      → HasSendOut plan config it state sent
  awaited {it} {state} sent s is =
      let on = open_on (work.Awaits sent) s is (between_or_awaits sent) in
      let far : IsSentFor config on.under sent state.targets state.outbox = on.far in
      record {
        old = before it state (work.Awaits sent) on;
        last = _;
        from = from_on (work.Awaits sent) on;
        out = record {
          it = on.under.request;
          was = on.under.done;
          are = refl;
          under = for_on (work.Awaits sent) on;
          by_key = asks_keyed far.asks;
          at = is;
          stands = to_sending far;
        };
      }

-- a call goes on only where the session may go on by itself
went_may : (config : Configuration) (at : Work) (state : SessionState) (calls : List RoutedCall)
    (said : Step) (new : SessionState) → WentOnFrom config at state calls said new → MayGoOn at
went_may config work.Between state calls said new on = tt
went_may config (work.Read one) state calls said new on = tt
went_may config (work.Awaits sent) state calls said new on = on
went_may config (work.Ended one) state calls said new on = tt
went_may config work.HandedOver state calls said new on = on

lost_may : (config : Configuration) (at : Work) (state : SessionState) (calls : List RoutedCall)
    (attempts : List Attempt) (new : SessionState)
    → WasDroppedFrom config at state calls attempts new → MayGoOn at
lost_may config work.Between state calls attempts new lost = tt
lost_may config (work.Read one) state calls attempts new lost = tt
lost_may config (work.Awaits sent) state calls attempts new lost = lost
lost_may config (work.Ended one) state calls attempts new lost = tt
lost_may config work.HandedOver state calls attempts new lost = lost

module _ {plan : KeyPlan} (keys : Option KeysState) {config : Configuration} where
  -- the session went on
  went_from : {it : Life} {state : SessionState} (calls : List RoutedCall) (said : Step)
      (new : SessionState) → MayGo plan config it state → WentOn config state calls said new
      → Gone plan keys config it (map Made calls) said new
  went_from {state = state} calls said new (idle from) on =
      item_open keys (map Made calls) said from (read_went state.owes calls from.idle on)
  went_from calls said new (asks old last from it) on =
      item_open keys (map Made calls) said from (asked_went calls it on)
  went_from calls said new (past old last from it) on =
      item_open keys (map Made calls) said from (past_went calls it on)

module _ {plan : KeyPlan} {keys : Option KeysState} {config : Configuration} where
  pub went_open : {it : Life} {state : SessionState} (calls : List RoutedCall) (said : Step)
      (new : SessionState) → IsClientOpen plan keys config it state
      → WentOn config state calls said new → Gone plan keys config it (map Made calls) said new
  went_open {state = state} calls said new s on = went_from keys calls said new
      (may_go state.work s refl (went_may config state.work state calls said new on)) on

  -- it took what came of its send
  pub took_open : {it : Life} {state : SessionState} {calls : List RoutedCall} {said : Step}
      {new : SessionState} (sent : SentKey) (got : Outcome) → IsClientOpen plan keys config it state
      → state.work ≡ work.Awaits sent → AwaitedTaken config got state calls said new
      → Gone plan keys config it (came_to sent (Ok got) ∷ map Made calls) said new
  took_open {calls = calls} {said = said} sent got s is took =
      let at = awaited sent s is in
      item_open keys (came_to sent (Ok got) ∷ map Made calls) said at.from
      (out_took at.out (took sent is))

module _ {plan : KeyPlan} {config : Configuration} where
  -- memory ran out where it went on
  lost_from : {it : Life} {state : SessionState} (calls : List RoutedCall) (attempts : List Attempt)
      (new : SessionState) → MayGo plan config it state → WasDropped config state calls attempts new
      → IsClientShort plan config (did it (map Made calls ++ marks_of attempts)) new
  lost_from {state = state} calls attempts new (idle from) lost =
      cut_short (more_from (map Made calls ++ marks_of attempts) from)
      (read_cut_at state.owes calls attempts from.idle lost)
  lost_from calls attempts new (asks old last from it) lost =
      cut_short (more_from (map Made calls ++ marks_of attempts) from)
      (asked_cut calls attempts it lost)
  lost_from calls attempts new (past old last from it) lost =
      cut_short (more_from (map Made calls ++ marks_of attempts) from)
      (past_cut_at calls attempts it lost)

  -- or where what it did could not be recorded
  kept_from : {it : Life} {state : SessionState} (calls : List RoutedCall) (said : Step)
      (mid new : SessionState) → MayGo plan config it state → WentOn config state calls said mid
      → IsToRecord said → new ≡ dropped mid
      → IsClientShort plan config (did it (map Made calls ++ left_after said)) new
  kept_from {state = state} calls said mid new (idle from) on records same =
      unrecorded_short (map Made calls) said from
      (read_went state.owes calls from.idle on) records same
  kept_from calls said mid new (asks old last from it) on records same =
      unrecorded_short (map Made calls) said from (asked_went calls it on) records same
  kept_from calls said mid new (past old last from it) on records same =
      unrecorded_short (map Made calls) said from (past_went calls it on) records same

module _ {plan : KeyPlan} {keys : Option KeysState} {config : Configuration} where
  pub loses : {it : Life} {state : SessionState} {done : List Interaction} {new : SessionState}
      → IsClientOpen plan keys config it state → IsLoss config state done new
      → IsClientShort plan config (did it done) new
  loses {it} {state} {new = new} s (act.went calls attempts lost are) =
      subst (λ ds. IsClientShort plan config (did it ds) new) (sym are)
      (lost_from calls attempts new (may_go state.work s refl
      (lost_may config state.work state calls attempts new lost)) lost)
  loses {it} {new = new} s (act.took sent got calls attempts is lost are) =
      let at = awaited sent s is in
      subst (λ ds. IsClientShort plan config (did it ds) new) (sym are)
      (cut_short (more_from (came_to sent (Ok got) ∷ (map Made calls ++ marks_of attempts)) at.from)
      (out_cut at.out (lost sent is)))
  loses {it} {new = new} s (act.stopped sent was_sent is same are) =
      let at = awaited sent s is in
      subst (λ ds. IsClientShort plan config (did it ds) new) (sym are)
      (cut_short (more_from (came_to sent (Err (record { sent = was_sent }))
      ∷ Noted sent.awaited.attempts ∷ []) at.from) (out_stopped was_sent at.out same))
  loses {it} {state} {new = new} s (act.went_unrecorded calls said mid on records same are) =
      subst (λ ds. IsClientShort plan config (did it ds) new) (sym are)
      (kept_from calls said mid new (may_go state.work s refl
      (went_may config state.work state calls said mid on)) on records same)
  loses {it} {new = new} s (act.took_unrecorded sent got calls said mid is took records same are) =
      let at = awaited sent s is in
      subst (λ ds. IsClientShort plan config (did it ds) new) (sym are)
      (unrecorded_short (came_to sent (Ok got) ∷ map Made calls) said at.from
      (out_took at.out (took sent is)) records same)
