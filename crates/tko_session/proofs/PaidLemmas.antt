-- A round as an event: the one that was owed after items, and the one at an idle turn.
use Rattle.std.proofs.Common.{◌≡◌, Some, ℕ, ◌+◌, ◌≤◌, length, List, [], ◌∷◌, ◌++◌, refl, sym, ap}
use Rattle.std.proofs.Common.{subst, ◌∙◌, append-nil, arith, add-zero, Bool, true, false, inl, inr}
use Rattle.std.specs.Prelude.{MatchBool}
use Rattle.std.proofs.lemmas.Bool.{cases_Bool}
use Rattle.std.specs.List.{list_any}
use Rattle.tko_model.specs.Records.{Gains}
use Rattle.tko_model.proofs.RecordLemmas.{gains_none, gains_one}
use Rattle.tko_reply.specs.declared.parts.Parts.{Parts}
use Rattle.tko_text.specs.Reading.{Gives}
use Rattle.tko_session.specs.Effects.{effects_of}
use Rattle.tko_session.specs.Events.{IdleRound, NoneAtWork, RoundAfter, Rounded, SessionEvent}
use Rattle.tko_session.specs.Events.{idle_rounds, met_prober, owed_after, turns_of, visits_of}
use Rattle.tko_session.specs.AnswerEnds.{IsRun, NoneRun}
use Rattle.tko_reply.specs.Ghosts.{PartsGhosts}
use Rattle.tko_prober.specs.Probers.{AreQuiet}
use Rattle.tko_prober.specs.Round.{probes_in, ran_out}
use Rattle.tko_session.specs.declared.step.Progress.{Progress}
use Rattle.tko_bytes.specs.Numbers.{capped}
use Rattle.tko_session.specs.SessionState.{CountsRise, SessionState, Snapshot, LeadsByEvents}
use Rattle.tko_session.specs.SessionState.{HasAnswered, ProgressIs, BeginBelowBound, snapshot}
use Rattle.tko_session.specs.SessionState.{items_of, replies_text, requests_in}
use Rattle.tko_text.proofs.GivesLemmas.{Gives-none}
use Rattle.tko_session.proofs.EventLemmas.{idles-append, quiet_round, work-append}
use Rattle.tko_session.proofs.AnsweredLemmas.{counts_none, turned_append}
use Rattle.tko_session.proofs.EventTurnsLemmas.{below-append, items-append, text-append}

-- the round that was owed, as an event, or none
pub record IsPaid {H L T C : Type 0} (ghosts : PartsGhosts H L T C) (short : Bool)
    (mid : Snapshot (Parts H L T C))
    (after : Parts H L T C) : Type 0 where
  pub last : List SessionEvent
  pub none : turns_of last ≡ []
  pub one : length last ≤ 1
  pub gains : Gains (effects_of ghosts).step mid.parts last after
  pub counts : CountsRise (effects_of ghosts) mid.parts last after
  pub order : owed_after mid.state.owes last ≡ Some false
  pub idles : idle_rounds last ≡ 0
  pub memory : short ≡ list_any ran_out (visits_of last)
  pub at_once : AreQuiet mid.parts.backend.probers → NoneAtWork last

-- events, and then one that answers no item
pub items-paid : (events last : List SessionEvent) → turns_of last ≡ []
    → items_of (turns_of (events ++ last)) ≡ items_of (turns_of events)
items-paid events last none =
    items-append events last ∙ ap (λ turns. items_of (turns_of events) ++ items_of turns) none
    ∙ append-nil (items_of (turns_of events))

pub text-paid : (events last : List SessionEvent) → turns_of last ≡ []
    → replies_text (turns_of (events ++ last)) ≡ replies_text (turns_of events)
text-paid events last none =
    text-append events last
    ∙ ap (λ turns. replies_text (turns_of events) ++ replies_text turns) none
    ∙ append-nil (replies_text (turns_of events))

module _ {H L T C : Type 0} {ghosts : PartsGhosts H L T C} where
  -- a round that was owed adds its probes to the counts
  counts_round : {short : Bool} {between after : Parts H L T C}
      → (rounded : Rounded ghosts.backend short between after)
      → CountsRise (effects_of ghosts) between (RoundAfter rounded.round.visits ∷ []) after
  counts_round {short} {between} {after} rounded = record {
    sends = λ server. rounded.sends server
        ∙ sym (add-zero (ghosts.backend.sent between.backend.links server));
    probes = λ server.
        rounded.round.probes server
        ∙ ap (λ visits. ghosts.backend.probed between.backend.links server
        + probes_in server visits) (sym (append-nil rounded.round.visits));
  }

  -- so does one at an idle turn
  pub counts_idle : {short : Bool} {between after : Parts H L T C}
      → (rounded : Rounded ghosts.backend short between after)
      → CountsRise (effects_of ghosts) between (IdleRound rounded.round.visits ∷ []) after
  counts_idle {short} {between} {after} rounded = let counted = counts_round rounded in
      record { sends = counted.sends; probes = counted.probes }

  paid_round : {short : Bool} {mid : Snapshot (Parts H L T C)} {after : Parts H L T C}
      → mid.state.owes ≡ true
      → Rounded ghosts.backend short mid.parts after → IsPaid ghosts short mid after
  paid_round {short} {mid} {after} owed rounded = record {
    last = RoundAfter rounded.round.visits ∷ [];
    none = refl;
    one = omega arith;
    gains = gains_one (record {
      short = short;
      round = rounded.round;
      visited = refl;
      others = rounded.others;
      sends = rounded.sends;
    });
    counts = counts_round rounded;
    order = rw owed refl;
    idles = refl;
    memory = rounded.round.memory ∙ sym (ap (list_any ran_out) (append-nil rounded.round.visits));
    at_once = λ quiet. ap (list_any met_prober) (append-nil rounded.round.visits)
        ∙ quiet_round rounded.round quiet;
  }

  paid_none : {short : Bool} {mid : Snapshot (Parts H L T C)} {after : Parts H L T C}
      → mid.state.owes ≡ false
      → NoneRun short mid.parts after → IsPaid ghosts short mid after
  paid_none {short} {mid} {after} none run = record {
    last = [];
    none = refl;
    one = omega arith;
    gains = subst (λ w. Gains (effects_of ghosts).step mid.parts [] w) (sym run.same)
        (gains_none mid.parts);
    counts = subst (λ w. CountsRise (effects_of ghosts) mid.parts [] w) (sym run.same)
        (counts_none mid.parts);
    order = ap Some none;
    idles = refl;
    memory = run.never_short;
    at_once = λ quiet. refl;
  }

  pub paid : {short : Bool} {mid : Snapshot (Parts H L T C)} {after : Parts H L T C}
      → IsRun ghosts.backend mid short after
      → IsPaid ghosts short mid after
  paid {short} {mid} {after} run =
      let P : Bool → Type 0 = λ owes. MatchBool owes (Rounded ghosts.backend short mid.parts after)
      (NoneRun short mid.parts after) in
      elim (cases_Bool mid.state.owes) [
        | inl owed ↦ paid_round owed (subst P owed run.ran)
        | inr none ↦ paid_none none (subst P none run.ran)
      ]

  -- the round that was owed was run, and memory ran out nowhere
  pub turned_paid : {mid : Snapshot (Parts H L T C)} {state : SessionState} {after : Parts H L T C}
      (outbox : List ℕ)
      → (it : IsPaid ghosts false mid after)
      → state ≡ record mid.state { outbox = outbox; owes = false }
      → LeadsByEvents (effects_of ghosts) mid it.last (snapshot state after)
  turned_paid {mid} {state} {after} outbox it is = record {
    gives =
        subst (λ turns. Gives mid.state.reading (items_of turns) state.reading) (sym it.none)
        (subst (Gives mid.state.reading []) (sym (ap (λ s. s.reading) is))
        (Gives-none mid.state.reading));
    gains = it.gains;
    order = it.order ∙ ap Some (sym (ap (λ s. s.owes) is));
    counts = it.counts;
    memory = sym it.memory;
    requests =
        ap capped (ap (λ s. s.requests) is ∙ sym (add-zero mid.state.requests))
        ∙ ap (λ turns. capped (mid.state.requests + requests_in (items_of turns))) (sym it.none);
  }

  -- the same after items, while no prober is at work
  pub answered_paid : {progress : Progress} {old mid : Snapshot (Parts H L T C)}
      {state : SessionState} {after : Parts H L T C}
      → HasAnswered (effects_of ghosts) progress old mid → AreQuiet mid.parts.backend.probers
      → IsRun ghosts.backend mid false after → state ≡ record mid.state { owes = false }
      → HasAnswered (effects_of ghosts) progress old (snapshot state after)
  answered_paid {progress} {old} {mid} {state} {after} front quiet run is =
      let it = paid run in
      record {
        events = front.events ++ it.last;
        turned = turned_append front.turned (turned_paid mid.state.outbox it is);
        idles = omega (arith, front.idles, it.idles, idles-append front.events it.last);
        outbox = ap (λ s. s.outbox) is ∙ front.outbox
            ∙ ap (λ xs. old.state.outbox ++ xs) (sym (text-paid front.events it.last it.none));
        begin =
            below-append old.state.outbox mid.state.outbox front.events it.last
            front.outbox front.begin
            (subst (BeginBelowBound (length mid.state.outbox)) (sym it.none) tt);
        at_once = work-append front.events it.last front.at_once (it.at_once quiet);
        progress_is =
            subst (λ xs. ProgressIs progress xs state.reading)
            (sym (items-paid front.events it.last it.none))
            (subst (λ to. ProgressIs progress (items_of (turns_of front.events)) to)
            (sym (ap (λ s. s.reading) is)) front.progress_is);
      }

  -- the round at an idle turn is an event
  pub turned_idle : {here : SessionState} {between after : Parts H L T C} → here.owes ≡ false
      → (rounded : Rounded ghosts.backend false between after)
      → LeadsByEvents (effects_of ghosts) (snapshot here between)
      (IdleRound rounded.round.visits ∷ []) (snapshot here after)
  turned_idle {here} {between} {after} none rounded = record {
    gives = Gives-none here.reading;
    gains = gains_one (record {
      short = false;
      round = rounded.round;
      visited = refl;
      others = rounded.others;
      sends = rounded.sends;
    });
    order = rw none refl;
    counts = counts_idle rounded;
    memory = ap (list_any ran_out) (append-nil rounded.round.visits) ∙ sym rounded.round.memory;
    requests = ap capped (sym (add-zero here.requests));
  }
