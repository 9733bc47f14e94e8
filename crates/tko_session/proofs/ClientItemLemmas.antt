-- One client's life after so much of its next item: it goes on, the item is the next turn of it, or
-- memory ran out.
use Rattle.std.proofs.Common.{◌≡◌, Bool, ℕ, List, [], ◌∷◌, ◌++◌, Option, refl, sym, ap, subst, ◌∙◌}
use Rattle.std.proofs.Common.{append_assoc, append-nil, arith}
use Rattle.tko_text.specs.declared.item.Item.TheVariants as item
use Rattle.tko_text.specs.declared.request.Request.{Request}
use Rattle.tko_text.specs.Requests.{fault_text}
use Rattle.tko_pools.specs.Configs.{Configuration}
use Rattle.tko_reply.specs.Interactions.{Interaction, Noted, Recorded}
use Rattle.tko_reply.specs.Standing.{SentKey}
use Rattle.tko_reply.specs.TrailEvents.{Asked, Tried}
use Rattle.tko_keys.specs.KeysState.{KeysState}
use Rattle.tko_keys.specs.declared.plan.KeyPlan.{KeyPlan}
use Rattle.tko_session.specs.Acts.{IsToRecord, asked_at, left_after, phase_after, recorded_after}
use Rattle.tko_session.specs.Clients.{IsClientIn, IsClientOpen, IsClientShort, Life}
use Rattle.tko_session.specs.Clients as clients
use Rattle.tko_session.specs.Driven.{dropped}
use Rattle.tko_session.specs.SessionState.{SessionState, progress_after}
use Rattle.tko_session.specs.SoFar.{IsPendingAt}
use Rattle.tko_session.specs.Turns.{IsTurnWithin, SessionTurn}
use Rattle.tko_session.specs.Turns as turn
use Rattle.tko_session.specs.Working.{Between}
use Rattle.tko_session.specs.Working as work
use Rattle.tko_session.specs.declared.step.Progress.{Progress}
use Rattle.tko_session.specs.declared.step.Step.{Step}
use Rattle.tko_session.specs.declared.step.Step.TheVariants as step
use Rattle.tko_session.proofs.ItemCutLemmas.{IsCutAt, request_cut, taken_lost, tried_lost, unasked}
use Rattle.tko_session.proofs.ItemLemmas.{taken_asked, tried_past}
use Rattle.tko_session.proofs.ItemStateLemmas.{IsAskedAt, IsFor, IsItem, IsOutAt, IsOverAt}
use Rattle.tko_session.proofs.ItemStateLemmas.{IsPastAt, refused, replied, undecided}
use Rattle.tko_session.proofs.LifeLemmas.{end_turn, idle_open, on_open}
use Rattle.tko_session.proofs.TurnedLemmas.{HasTurned, did, more_turned}
use Rattle.tko_session.proofs.SoFarLemmas.{of_past, of_sending}
use Rattle.tko_session.proofs.TurnLemmas.{fault_progress, request_progress}

-- what a client's life is after a call that said this, where so much more was done in it
abbrev pub Gone : KeyPlan → Option KeysState → Configuration → Life → List Interaction → Step
    → SessionState → Type 0
Gone plan keys config it more said new = IsClientIn (phase_after said) plan keys config
    (did it (more ++ recorded_after said new.work)) new

-- the life of a client from an idle session on, of which so much was done for the next item
pub record IsFrom (plan : KeyPlan) (config : Configuration) (it : Life) (old : SessionState)
    (last : List Interaction) : Type 0 where
  pub base : HasTurned plan config it old.outbox old.reading old.requests last
  pub idle : old.work ≡ Between

pub more_from : {plan : KeyPlan} {config : Configuration} {it : Life} {old : SessionState}
    {last : List Interaction} (more : List Interaction) → IsFrom plan config it old last
    → IsFrom plan config (did it more) old (last ++ more)
more_from more from = record { base = more_turned more from.base; idle = from.idle }

module _ {plan : KeyPlan} {keys : Option KeysState} {config : Configuration} where
  -- a request is under way
  under_open : {it : Life} {old : SessionState} {last : List Interaction}
      {owes : Bool} {new : SessionState} (request : Request) (was : List Interaction)
      → IsFrom plan config it old last
      → last ≡ Recorded (Asked request) ∷ was → IsFor old request owes new
      → IsPendingAt plan keys config (record {
        request = request;
        front = old.outbox;
        done = was;
      }) new.work new.targets new.outbox → IsClientOpen plan keys config it new
  under_open {it} {old} {new = new} request was from are under far =
      on_open (record { request = request; front = old.outbox; done = was })
      (record {
        left = old.reading;
        base = subst (λ n. HasTurned plan config it old.outbox old.reading n
            (Recorded (Asked request) ∷ was)) (sym under.requests)
            (subst (HasTurned plan config it old.outbox old.reading old.requests) are from.base);
        emits = under.emits;
        begin = under.begin;
      }) far

  asked_open : {it : Life} {old : SessionState} {last : List Interaction} {owes : Bool}
      {new : SessionState} → IsFrom plan config it old last → IsAskedAt old owes last new
      → IsClientOpen plan keys config it new
  asked_open {old = old} {new = new} from asks =
      let far : IsPendingAt plan keys config (record {
        request = asks.it;
        front = old.outbox;
        done = [];
      }) (work.Read _) new.targets new.outbox = (refl, refl, asks.waits) in
      under_open asks.it [] from asks.are asks.under
      (subst (λ w. IsPendingAt plan keys config (record {
        request = asks.it;
        front = old.outbox;
        done = [];
      }) w new.targets new.outbox) (sym asks.at) far)

  out_open : {it : Life} {old : SessionState} {last : List Interaction} {owes : Bool} {clear : ℕ}
      {sent : SentKey} {new : SessionState} → IsFrom plan config it old last
      → IsOutAt config old owes last clear sent new → IsClientOpen plan keys config it new
  out_open {old = old} {new = new} from out =
      under_open out.it out.was from out.are out.under
      (subst (λ w. IsPendingAt plan keys config (record {
        request = out.it;
        front = old.outbox;
        done = out.was;
      }) w new.targets new.outbox) (sym out.at) (of_sending out.stands))

  past_open : {it : Life} {old : SessionState} {last : List Interaction} {owes : Bool}
      {new : SessionState} → IsFrom plan config it old last → IsPastAt config old owes last new
      → IsClientOpen plan keys config it new
  past_open {old = old} {new = new} from past =
      under_open past.it past.was from past.are past.under
      (subst (λ w. IsPendingAt plan keys config (record {
        request = past.it;
        front = old.outbox;
        done = past.was;
      }) w new.targets new.outbox) (sym past.at)
      (of_past past.by_key past.stands))

module _ {plan : KeyPlan} (keys : Option KeysState) {config : Configuration} where
  -- its next item was answered, or none is decided
  over_open : {it : Life} {old : SessionState} {last : List Interaction}
      {owes : Bool} {new : SessionState} (at : Progress) → IsFrom plan config it old last
      → IsOverAt config old owes last at new
      → IsClientIn (phase_after (step.At at)) plan keys config it new
  over_open {it} {old} {last} {new = new} at from (undecided needs nothing says same) =
      let base =
      subst (HasTurned plan config it old.outbox old.reading old.requests) nothing from.base in
      subst (λ a. IsClientIn (phase_after (step.At a)) plan keys config it new) (sym says)
      (subst (IsClientOpen plan keys config it) (sym same) (idle_open base from.idle))
  over_open {it} {old} {last} {new = new} at from (refused fault emits nothing says same) =
      let one : SessionTurn =
      record { item = item.Fault fault; routed = []; text = fault_text fault } in
      let is : IsTurnWithin plan config one last =
      turn.in_turn (turn.refused fault refl refl refl nothing) in
      subst (λ a. IsClientIn (phase_after (step.At a)) plan keys config it new) (sym says)
      (end_turn keys new _ one from.base is emits (fault_progress fault old.reading new.reading
      emits) (ap (λ (s : SessionState). s.outbox) same)
      (ap (λ (s : SessionState). s.work) same ∙ from.idle)
      (omega (arith, ap (λ (s : SessionState). s.requests) same)))
  over_open {it} {old} {last} {new = new} at from (replied done) =
      let one : SessionTurn = record {
        item = item.Request done.it;
        routed = done.answered.routed;
        text = done.answered.text;
      } in
      subst (λ a. IsClientIn (phase_after (step.At a)) plan keys config it new) (sym done.says)
      (end_turn keys new _ one from.base
      (turn.in_turn (turn.answered done.it done.was refl done.are done.answered.answers))
      done.emits (request_progress done.it new.reading) done.answered.appended
      done.between done.requests)

  -- its next item came so far, and what the session said was recorded
  pub item_open : {it : Life} {old : SessionState} {last : List Interaction} {owes : Bool}
      {new : SessionState} (more : List Interaction) (said : Step) → IsFrom plan config it old last
      → IsItem config old owes (last ++ more) said new → Gone plan keys config it more said new
  item_open {it} {new = new} more (step.At at) from is =
      subst (λ ds. IsClientIn (phase_after (step.At at)) plan keys config (did it ds) new)
      (sym (append-nil more)) (over_open at (more_from more from) is.on)
  item_open {it} {new = new} more (step.Refused fault) from is =
      subst (λ ds. IsClientIn (phase_after (step.Refused fault)) plan keys config (did it ds) new)
      (sym (append-nil more)) (over_open (progress_after fault) (more_from more from) is.on)
  item_open {it} {old} {last} {new = new} more step.Began from is =
      let taken = is.on.1 in
      let asks = taken_asked taken in
      let here : last ++ (more ++ asked_at new.work) ≡ Recorded (Asked taken.it) ∷ [] =
      sym (append_assoc last more (asked_at new.work)) ∙ ap (λ ds. ds ++ asked_at new.work) is.on.0
      ∙ ap asked_at (ap (λ (s : SessionState). s.work) taken.state) in
      asked_open (more_from (more ++ asked_at new.work) from)
      (subst (λ ds. IsAskedAt old new.owes ds new) (sym here) asks)
  item_open {it} {new = new} more (step.Asks clear) from is =
      subst (λ ds. IsClientOpen plan keys config (did it ds) new) (sym (append-nil more))
      (out_open (more_from more from) is.on.1)
  item_open {it} {old} {last} {owes} {new} more (step.Tried trail) from is =
      let records = Recorded (Tried trail) ∷ [] in
      past_open (more_from (more ++ records) from) (subst (λ ds. IsPastAt config old owes ds new)
      (append_assoc last more records) (tried_past is.on))

module _ {plan : KeyPlan} {config : Configuration} where
  -- memory ran out for it
  pub cut_short : {it : Life} {old : SessionState} {last : List Interaction} {owes : Bool}
      {new : SessionState} → IsFrom plan config it old last → IsCutAt config old owes last new
      → IsClientShort plan config it new
  cut_short {it} {last = last} {new = new} from (unasked nothing owed before) =
      let base = from.base in
      record {
        turns = base.turns;
        turned = base.turned;
        left = _;
        last = last;
        each = base.each;
        at = before.between;
        goes_on = base.goes_on;
        gives = base.gives;
        cut = clients.none_read nothing;
        text = ap (λ xs. it.sent ++ xs) before.waits ∙ base.text;
        are = base.are;
        requests = rw before.requests base.counted;
      }
  cut_short {it} {last = last} {new = new} from (request_cut request now emits lost owed before) =
      let base = from.base in
      record {
        turns = base.turns;
        turned = base.turned;
        left = _;
        last = last;
        each = base.each;
        at = before.between;
        goes_on = base.goes_on;
        gives = base.gives;
        cut = clients.request_cut request now.reading emits (turn.cut_in_turn lost);
        text = ap (λ xs. it.sent ++ xs) before.waits ∙ base.text;
        are = base.are;
        requests = rw before.requests base.counted;
      }

  -- what the session said could not be recorded
  pub unrecorded_short : {it : Life} {old : SessionState} {last : List Interaction}
      {owes : Bool} {mid new : SessionState} (more : List Interaction) (said : Step)
      → IsFrom plan config it old last
      → IsItem config old owes (last ++ more) said mid → IsToRecord said → new ≡ dropped mid
      → IsClientShort plan config (did it (more ++ left_after said)) new
  unrecorded_short more (step.Refused fault) from is never same = absurd never
  unrecorded_short more (step.At at) from is never same = absurd never
  unrecorded_short {it} {old} {last} {mid = mid} {new = new} more step.Began from is records same =
      let nothing : last ++ (more ++ []) ≡ [] = ap (λ ds. last ++ ds) (append-nil more) ∙ is.on.0 in
      cut_short (more_from (more ++ []) from)
      (subst (λ ds. IsCutAt config old mid.owes ds new) (sym nothing) (taken_lost is.on.1 same))
  unrecorded_short more (step.Asks clear) from is never same = absurd never
  unrecorded_short {it} {old} {last} {owes} {new = new} more
      (step.Tried trail) from is records same =
      let marks = Noted trail ∷ [] in
      cut_short (more_from (more ++ marks) from) (subst (λ ds. IsCutAt config old owes ds new)
      (append_assoc last more marks) (tried_lost is.on same))
