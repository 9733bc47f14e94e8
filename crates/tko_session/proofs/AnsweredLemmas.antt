-- What a session answered: nothing, these events and then those, or a part of them.
use Rattle.std.proofs.Common.{◌≡◌, Some, ◌+◌, List, [], ◌++◌, refl, sym, ap, subst, ◌∙◌, append-nil}
use Rattle.std.proofs.Common.{arith, add-zero, true, false}
use Rattle.tko_model.proofs.RecordLemmas.{gains_none, gains_append}
use Rattle.tko_text.specs.declared.item.Item.TheVariants as item
use Rattle.tko_text.specs.declared.request.Request.{Request}
use Rattle.tko_text.specs.Reading.{Reading, Gives, NeedsMore, Emits}
use Rattle.tko_session.specs.Events.{Effects, SessionEvent, turns_of}
use Rattle.tko_session.specs.declared.step.Progress.{Progress}
use Rattle.tko_session.specs.declared.step.Progress.TheVariants.{More, NeedsInput}
use Rattle.tko_bytes.specs.Numbers.{capped}
use Rattle.tko_io.proofs.WriteLemmas.{capped-more}
use Rattle.tko_session.specs.SessionState.{CountsRise, SessionState, Snapshot, LeadsByEvents}
use Rattle.tko_session.specs.SessionState.{HasAnswered, AnsweredPart, ContinuesAfterAll, IsBehind}
use Rattle.tko_session.specs.SessionState.{snapshot, items_of, cut_short, no_more, stop_point}
use Rattle.tko_text.proofs.GivesLemmas.{Gives-none, Gives-append}
use Rattle.tko_session.proofs.EventLemmas.{idles-append, order-append, probes-append, short-append}
use Rattle.tko_session.proofs.EventLemmas.{work-append}
use Rattle.tko_session.proofs.EventTurnsLemmas.{below-append, items-append, requests-append}
use Rattle.tko_session.proofs.EventTurnsLemmas.{sends-append, waiting-append}
use Rattle.tko_session.proofs.TurnLemmas.{events_go_on, events_in_session, events_progress}
use Rattle.tko_session.proofs.TurnLemmas.{goes_on-none, in_session_of}

module _ {W : Type 0} {cut : Request → W → W → Type 0} where
  -- what was done behind events was done behind all of them
  behind_after : {left : Reading} {reached : W} {new : Snapshot W} (events more : List SessionEvent)
      → ContinuesAfterAll (items_of (turns_of events))
      → IsBehind cut (stop_point more left reached) new
      → IsBehind cut (stop_point (events ++ more) left reached) new
  behind_after events more goes (no_more same none) = no_more same none
  behind_after events more goes (cut_short it to going emits is owed) =
      cut_short it to (events_go_on events more goes going) emits is owed

module _ {W : Type 0} {does : Effects W} where
  pub counts_none : (parts : W) → CountsRise does parts [] parts
  counts_none parts = record {
    sends = λ server. sym (add-zero (does.sent parts server));
    probes = λ server. sym (add-zero (does.probed parts server));
  }

  -- these counts rose by events, and then by more of them
  pub counts_append : {old mid new : W} {events more : List SessionEvent}
      → CountsRise does old events mid → CountsRise does mid more new
      → CountsRise does old (events ++ more) new
  counts_append {old} {mid} {new} {events} {more} front back = record {
    sends = λ server.
        omega (arith, front.sends server, back.sends server, sends-append server events more);
    probes = λ server.
        omega (arith, front.probes server, back.probes server, probes-append server events more);
  }

  -- memory ran out before the first event was complete
  part_behind : (old new : SessionState) {before after : W} → new.outbox ≡ old.outbox
      → old.owes ≡ false
      → IsBehind does.cut (stop_point [] old.reading before) (snapshot new after)
      → AnsweredPart does (snapshot old before) (snapshot new after)
  part_behind old new {before} {after} same none behind = record {
    events = [];
    left = old.reading;
    reached = before;
    gives = Gives-none old.reading;
    gains = gains_none before;
    counts = counts_none before;
    order = ap Some none;
    idles = refl;
    in_session = in_session_of [] goes_on-none;
    outbox = same ∙ sym (append-nil old.outbox);
    begin = tt;
    at_once = refl;
    behind = behind;
  }

  -- memory ran out before any event
  pub part_none : (old new : SessionState) (world : W) → new.outbox ≡ old.outbox → old.owes ≡ false
      → new.owes ≡ false
      → AnsweredPart does (snapshot old world) (snapshot new world)
  part_none old new world same before after = part_behind old new same before (no_more refl after)

  -- memory ran out in the first request
  pub part_cut : (old new : SessionState) (it : Request) (to : Reading) (before after : W)
      → Emits old.reading (item.Request it) to
      → does.cut it before after → new.outbox ≡ old.outbox → old.owes ≡ false → new.owes ≡ true
      → AnsweredPart does (snapshot old before) (snapshot new after)
  part_cut old new it to before after emits is same none owed =
      part_behind old new same none (cut_short it to goes_on-none emits is owed)

  pub turned_none : (here : Snapshot W) → LeadsByEvents does here [] here
  turned_none here = record {
    gives = Gives-none here.state.reading;
    gains = gains_none here.parts;
    order = refl;
    counts = counts_none here.parts;
    memory = refl;
    requests = ap capped (sym (add-zero here.state.requests));
  }

  pub turned_append : {old mid new : Snapshot W} {events more : List SessionEvent}
      → LeadsByEvents does old events mid → LeadsByEvents does mid more new
      → LeadsByEvents does old (events ++ more) new
  turned_append {old} {mid} {new} {events} {more} front back = record {
    gives =
        let gives = Gives-append _ _ _ _ _ front.gives back.gives in
        subst (λ items. Gives old.state.reading items new.state.reading)
        (sym (items-append events more)) gives;
    gains = gains_append front.gains back.gains;
    order = order-append old.state.owes mid.state.owes new.state.owes events more
        front.order back.order;
    counts = counts_append front.counts back.counts;
    memory = short-append events more front.memory back.memory;
    requests =
        let more_than = capped-more old.state.requests mid.state.requests new.state.requests _ _
        front.requests back.requests in
        more_than ∙ ap (λ n. capped (old.state.requests + n)) (sym (requests-append events more));
  }

  pub answered_none : (state : SessionState) (world : W)
      → HasAnswered does More (snapshot state world) (snapshot state world)
  answered_none state world = record {
    events = [];
    turned = turned_none (snapshot state world);
    idles = refl;
    outbox = sym (append-nil state.outbox);
    begin = tt;
    at_once = refl;
    progress_is = goes_on-none;
  }

  pub answered_open : (old new : SessionState) (world : W) → NeedsMore old.reading → new ≡ old
      → HasAnswered does NeedsInput (snapshot old world) (snapshot new world)
  answered_open old new world none same = rw same (record {
    events = [];
    turned = turned_none (snapshot old world);
    idles = refl;
    outbox = sym (append-nil old.outbox);
    begin = tt;
    at_once = refl;
    progress_is = (goes_on-none, none);
  })

  pub answered_append : {progress : Progress} {old mid new : Snapshot W}
      → HasAnswered does More old mid → HasAnswered does progress mid new
      → HasAnswered does progress old new
  answered_append {progress} {old} {mid} {new} front back = record {
    events = front.events ++ back.events;
    turned = turned_append front.turned back.turned;
    idles = omega (arith, front.idles, back.idles, idles-append front.events back.events);
    outbox = waiting-append old.state.outbox mid.state.outbox new.state.outbox front.events
        back.events front.outbox back.outbox;
    begin = below-append old.state.outbox mid.state.outbox front.events back.events front.outbox
        front.begin back.begin;
    at_once = work-append front.events back.events front.at_once back.at_once;
    progress_is = events_progress progress front.events back.events new.state.reading
        front.progress_is back.progress_is;
  }

  pub part_after : {old mid new : Snapshot W} → HasAnswered does More old mid
      → AnsweredPart does mid new
      → AnsweredPart does old new
  part_after {old} {mid} {new} front back = record {
    events = front.events ++ back.events;
    left = back.left;
    reached = back.reached;
    gives =
        let gives = Gives-append _ _ _ _ _ front.turned.gives back.gives in
        subst (λ items. Gives old.state.reading items back.left)
        (sym (items-append front.events back.events)) gives;
    gains = gains_append front.turned.gains back.gains;
    counts = counts_append front.turned.counts back.counts;
    order = order-append old.state.owes mid.state.owes false front.events back.events
        front.turned.order back.order;
    idles = omega (arith, front.idles, back.idles, idles-append front.events back.events);
    in_session = events_in_session front.events back.events front.progress_is back.in_session;
    outbox = waiting-append old.state.outbox mid.state.outbox new.state.outbox front.events
        back.events front.outbox back.outbox;
    begin = below-append old.state.outbox mid.state.outbox front.events back.events front.outbox
        front.begin back.begin;
    at_once = work-append front.events back.events front.at_once back.at_once;
    behind = behind_after front.events back.events front.progress_is back.behind;
  }
