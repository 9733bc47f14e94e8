-- One client's life: its turns, and what is under way.
use Rattle.std.proofs.Common.{◌≡◌, ℕ, ◌+◌, List, [], ◌∷◌, ◌++◌, Option, Some, None, refl, sym, ap}
use Rattle.std.proofs.Common.{subst, ◌∙◌, append_assoc, append-nil, inl, inr, cond}
use Rattle.std.proofs.lemmas.Grind.{flat_map-append}
use Rattle.std.proofs.lemmas.List.{map-append}
use Rattle.std.proofs.lemmas.List.Sums.{sum_by-append}
use Rattle.tko_text.specs.declared.item.Item.TheVariants as item
use Rattle.tko_text.specs.Reading.{Emits, Gives, Reading, fed, reading_start}
use Rattle.tko_text.proofs.GivesLemmas.{Gives-none, Gives-push}
use Rattle.tko_pools.specs.Configs.{Configuration}
use Rattle.tko_bytes.specs.Numbers.{capped}
use Rattle.tko_reply.specs.Interactions.{Interaction}
use Rattle.tko_reply.specs.Standing.{SentKey}
use Rattle.tko_reply.specs.declared.asking.OneKey.{OneKey}
use Rattle.tko_keys.specs.KeysState.{KeysState}
use Rattle.tko_keys.specs.declared.plan.KeyPlan.{KeyPlan}
use Rattle.tko_session.specs.Acts.{phase_after}
use Rattle.tko_session.specs.Clients.{AreTurns, HasPending, IsClientIn, IsClientOpen, Life}
use Rattle.tko_session.specs.Clients.{done_under, items_under, no_life, waiting_in}
use Rattle.tko_session.specs.SessionState.{ProgressIs, SessionState, fresh_session, items_of}
use Rattle.tko_session.specs.SessionState.{replies_text, requests_in}
use Rattle.tko_session.specs.SoFar.{IsPendingAt, PendingRequest}
use Rattle.tko_session.specs.Turns.{IsTurnWithin, SessionTurn, is_request}
use Rattle.tko_session.specs.Working.{Between, Work}
use Rattle.tko_session.specs.Working as work
use Rattle.tko_session.specs.declared.step.Progress.{Progress}
use Rattle.tko_session.specs.declared.step.Progress.TheVariants as progress
use Rattle.tko_session.specs.declared.step.Step.TheVariants as step
use Rattle.tko_session.proofs.TurnLemmas.{goes_on-none, progress-append}
use Rattle.tko_session.proofs.TurnedLemmas.{HasTurned, IsOn, IsOnWith, counted_more, each_split}
use Rattle.tko_session.proofs.TurnedLemmas.{turns_push}

module _ {plan : KeyPlan} {keys : Option KeysState} {config : Configuration} where
  -- no request is under way
  pub idle_open : {it : Life} {state : SessionState}
      → HasTurned plan config it state.outbox state.reading state.requests [] → state.work ≡ Between
      → IsClientOpen plan keys config it state
  idle_open {it} {state} base at = record {
    turns = base.turns;
    turned = base.turned;
    under = None;
    each = base.each;
    at = at;
    goes_on = base.goes_on;
    gives = subst (λ items. Gives (fed reading_start it.bytes) items state.reading)
        (sym (append-nil (items_of base.turns))) base.gives;
    text = base.text;
    are = base.are;
    requests = base.counted;
  }

  idle_by : {it : Life} {state : SessionState} (s : IsClientOpen plan keys config it state)
      (under : Option PendingRequest) → s.under ≡ under → state.work ≡ Between
      → HasTurned plan config it state.outbox state.reading state.requests []
  idle_by {it} {state} s None e at = record {
    turns = s.turns;
    turned = s.turned;
    each = s.each;
    goes_on = s.goes_on;
    gives =
        subst (λ items. Gives (fed reading_start it.bytes) items state.reading)
        (append-nil (items_of s.turns))
        (subst (λ u. Gives (fed reading_start it.bytes)
        (items_of s.turns ++ items_under u) state.reading) e s.gives);
    text = subst (λ u. it.sent ++ waiting_in u state.outbox ≡ replies_text s.turns) e s.text;
    are = subst (λ u. it.done ≡ s.turned ++ done_under u) e s.are;
    counted = s.requests;
  }
  idle_by {it} {state} s (Some p) e at =
      let under : HasPending plan keys config (Some p) state =
      subst (λ u. HasPending plan keys config u state) e s.at in
      absurd (subst (λ w. IsPendingAt plan keys config p w state.targets state.outbox) at under.1)

  pub open_idle : {it : Life} {state : SessionState} → IsClientOpen plan keys config it state
      → state.work ≡ Between → HasTurned plan config it state.outbox state.reading state.requests []
  open_idle s at = idle_by s s.under refl at

  -- this request is under way
  pub on_open : {it : Life} {state : SessionState} (under : PendingRequest)
      → IsOn plan config it state under
      → IsPendingAt plan keys config under state.work state.targets state.outbox
      → IsClientOpen plan keys config it state
  on_open {it} {state} under on far = record {
    turns = on.base.turns;
    turned = on.base.turned;
    under = Some under;
    each = on.base.each;
    at = (on.begin, far);
    goes_on = on.base.goes_on;
    gives = Gives-push (fed reading_start it.bytes) (items_of on.base.turns) on.left
        (item.Request under.request) state.reading on.base.gives on.emits;
    text = on.base.text;
    are = on.base.are;
    requests = on.base.counted;
  }

  on_by : {it : Life} {state : SessionState} (s : IsClientOpen plan keys config it state)
      (under : Option PendingRequest) → s.under ≡ under
      → (at : Work) → state.work ≡ at → (at ≡ Between → ⊥) → IsOnWith plan keys config it state at
  on_by {it} {state} s None e at is other =
      let idle : state.work ≡ Between = subst (λ u. HasPending plan keys config u state) e s.at in
      absurd (other (sym is ∙ idle))
  on_by {it} {state} s (Some p) e at is other =
      let under : HasPending plan keys config (Some p) state =
      subst (λ u. HasPending plan keys config u state) e s.at in
      let gives = subst (λ u. Gives (fed reading_start it.bytes)
      (items_of s.turns ++ items_under u) state.reading) e s.gives in
      let split = each_split (fed reading_start it.bytes) (items_of s.turns)
      (item.Request p.request) state.reading gives.each in
      record {
        under = p;
        on = record {
          left = split.0;
          base = record {
            turns = s.turns;
            turned = s.turned;
            each = s.each;
            goes_on = s.goes_on;
            gives = record { each = split.1 };
            text =
                subst (λ u. it.sent ++ waiting_in u state.outbox ≡ replies_text s.turns) e s.text;
            are = subst (λ u. it.done ≡ s.turned ++ done_under u) e s.are;
            counted = s.requests;
          };
          emits = split.2;
          begin = under.0;
        };
        far = subst (λ w. IsPendingAt plan keys config p w state.targets state.outbox) is under.1;
      }

  pub open_on : {it : Life} {state : SessionState} (at : Work)
      → IsClientOpen plan keys config it state → state.work ≡ at → (at ≡ Between → ⊥)
      → IsOnWith plan keys config it state at
  open_on at s is other = on_by s s.under refl at is other

-- these turns were all, and the last one ends the session or does not
ends_so : (plan : KeyPlan) (keys : Option KeysState) (config : Configuration)
    (it : Life) (state : SessionState) (at : Progress) (turns : List SessionTurn)
    → ProgressIs at (items_of turns) state.reading
    → AreTurns plan config turns it.done → state.work ≡ Between
    → Gives (fed reading_start it.bytes) (items_of turns) state.reading
    → it.sent ++ state.outbox ≡ replies_text turns
    → capped state.requests ≡ capped (requests_in (items_of turns))
    → IsClientIn (phase_after (step.At at)) plan keys config it state
ends_so plan keys config it state progress.More turns goes each between gives text counted =
    idle_open (record {
      turns = turns;
      turned = it.done;
      each = each;
      goes_on = goes;
      gives = gives;
      text = text;
      are = sym (append-nil it.done);
      counted = counted;
    }) between
ends_so plan keys config it state progress.NeedsInput turns
    (goes, none) each between gives text counted =
    idle_open (record {
      turns = turns;
      turned = it.done;
      each = each;
      goes_on = goes;
      gives = gives;
      text = text;
      are = sym (append-nil it.done);
      counted = counted;
    }) between
ends_so plan keys config it state progress.LineTooLong turns
    (ends, never) each between gives text counted =
    record {
      turns = turns;
      each = each;
      at = between;
      ends = inl ends;
      gives = gives;
      text = text;
      requests = counted;
    }
ends_so plan keys config it state progress.Quit turns ends each between gives text counted =
    record {
      turns = turns;
      each = each;
      at = between;
      ends = inr ends;
      gives = gives;
      text = text;
      requests = counted;
    }

module _ {plan : KeyPlan} (keys : Option KeysState) {config : Configuration} where
  -- one more item was answered
  pub end_turn : {it : Life} {front : List ℕ} {left : Reading} {requests : ℕ}
      {last : List Interaction} (state : SessionState) (at : Progress) (one : SessionTurn)
      → HasTurned plan config it front left requests last → IsTurnWithin plan config one last
      → Emits left one.item state.reading → ProgressIs at (one.item ∷ []) state.reading
      → state.outbox ≡ front ++ one.text → state.work ≡ Between
      → capped state.requests ≡ capped (requests + requests_in (one.item ∷ []))
      → IsClientIn (phase_after (step.At at)) plan keys config it state
  end_turn {it} {front} {left} {requests} {last} state at one base is emits progress said
      between counted =
      let turns = base.turns ++ one ∷ [] in
      let before = items_of base.turns in
      let after = one.item ∷ [] in
      let items : items_of turns ≡ before ++ after =
      map-append (λ turn. turn.item) base.turns (one ∷ []) in
      let texts : replies_text turns ≡ replies_text base.turns ++ one.text =
      flat_map-append (λ turn. turn.text) base.turns (one ∷ [])
      ∙ ap (λ xs. replies_text base.turns ++ xs) (append-nil one.text) in
      let asked : requests_in (items_of turns) ≡ requests_in before + requests_in after =
      ap requests_in items
      ∙ sum_by-append (λ item. cond (is_request item) 1 0) before after in
      ends_so plan keys config it state at turns
      (subst (λ xs. ProgressIs at xs state.reading) (sym items)
      (progress-append at before after state.reading base.goes_on progress))
      (subst (AreTurns plan config turns) (sym base.are)
      (turns_push plan config base.turns one base.turned last base.each is)) between
      (subst (λ xs. Gives (fed reading_start it.bytes) xs state.reading) (sym items)
      (Gives-push (fed reading_start it.bytes) before left one.item state.reading base.gives emits))
      (ap (λ xs. it.sent ++ xs) said ∙ sym (append_assoc it.sent front one.text)
      ∙ ap (λ xs. xs ++ one.text) base.text ∙ sym texts)
      (counted_more (requests_in before) requests state.requests (requests_in after)
      base.counted counted ∙ ap capped (sym asked))

pub between_or_read : (one : OneKey) → work.Read one ≡ Between → ⊥
between_or_read one same = cc

pub between_or_awaits : (it : SentKey) → work.Awaits it ≡ Between → ⊥
between_or_awaits it same = cc

pub between_or_ended : (one : OneKey) → work.Ended one ≡ Between → ⊥
between_or_ended one same = cc

pub between_or_handed : work.HandedOver ≡ Between → ⊥
between_or_handed same = cc

-- a client that has just come
pub begins : (plan : KeyPlan) (config : Configuration)
    → IsClientOpen plan None config no_life fresh_session
begins plan config =
    idle_open (record {
      turns = [];
      turned = [];
      each = refl;
      goes_on = goes_on-none;
      gives = Gives-none reading_start;
      text = refl;
      are = refl;
      counted = refl;
    }) refl
