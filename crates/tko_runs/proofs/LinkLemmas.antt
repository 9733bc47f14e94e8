-- What the core makes of its turns, and what the events of its past claim: both are the same.
use Rattle.std.proofs.Common.{◌≡◌, ℕ, zero, suc, ◌+◌, ◌<◌, List, [], ◌∷◌, ◌++◌, length, map, replicate, None, refl, sym, ap, ◌∙◌, subst}
use Rattle.std.proofs.Math.ListN.{get_or-map}
use Rattle.std.proofs.lemmas.List.{length-map, map-set, reverse-append}
use Rattle.tko_model.specs.declared.mark.Op.{Op}
use Rattle.tko_model.specs.Settings.{Settings}
use Rattle.tko_model.specs.Ranges.{IsWithinRanges}
use Rattle.tko_runs.specs.declared.run.event.Event.{Event}
use Rattle.tko_runs.specs.declared.run.event.Event.TheVariants as event
use Rattle.tko_runs.specs.declared.run.state.ThreadEntry.{ThreadEntry}
use Rattle.tko_runs.specs.declared.run.state.ThreadEntry.TheVariants as entry
use Rattle.tko_runs.specs.States.{AllCome, CanCome, Claimed, HasCall, HasPlace, IsThreadIdle, RunState, answered, claimed_after, claimed_after_all, entry_at, moment_of, opened_claim, opened_state}
use Rattle.tko_runs.specs.Orders.{AllFollow, Follows}
use Rattle.tko_runs.specs.Runs.{event_of, events_of}
use Rattle.tko_steps.specs.declared.step.StepKind.TheVariants as kind
use Rattle.tko_steps.specs.declared.step.Place.{Place}
use Rattle.tko_steps.specs.declared.step.Place.TheVariants as place
use Rattle.tko_steps.specs.declared.step.Word.{Word}
use Rattle.tko_steps.specs.declared.step.Word.TheVariants as word
use Rattle.tko_steps.specs.declared.table.Action.{Action}
use Rattle.tko_steps.specs.declared.table.Decision.{Decision}
use Rattle.tko_steps.specs.declared.table.Decision.TheVariants.{Goes, Answers}
use Rattle.tko_steps.specs.declared.phase.Call.{Call}
use Rattle.tko_steps.specs.declared.phase.Phase.{Phase}
use Rattle.tko_steps.specs.declared.phase.ThreadState.{ThreadState}
use Rattle.tko_steps.specs.declared.phase.ThreadState.TheVariants.{NotEnrolled, Idle, InCall}
use Rattle.tko_steps.specs.Runs.{Turn, Moment, World, run, start_world}
use Rattle.tko_steps.specs.Core.{CoreState, Shared, abstract_of, follows, thread_at, word_at}
use Rattle.tko_steps.specs.Steps.{decided_answer, decided_state, place_of, step_kind, word_after}
use Rattle.tko_steps.specs.Table.{action_of}
use Rattle.tko_runs.proofs.ActLemmas.{acts}
use Rattle.tko_runs.proofs.WordActLemmas.{Acts, call-step, has-place, words-left}
use Rattle.tko_runs.proofs.EventLemmas.{AllFollow-push, claimed_after_all-push}
use Rattle.tko_model.specs.Tracker.{server_at}
use Rattle.tko_steps.proofs.EveryTurnLemmas.{HoldsBoth, along}
use Rattle.tko_steps.proofs.RoomLemmas.{IsPlace-at}
use Rattle.tko_steps.proofs.SoFarLemmas.{Knows}
use Rattle.tko_steps.proofs.WiringLemmas.{begun, stepped_from}
use Rattle.tko_runs.specs.Words.{CanLeave, room_at}

-- Events, one more at the end.

pub events_of-push : (moment : Moment) (past : List Moment)
    → events_of (moment ∷ past) ≡ events_of past ++ event_of moment ∷ []
unfolding events_of
events_of-push moment past = reverse-append (event_of moment ∷ []) (map event_of past)

pub events_of-none : events_of [] ≡ []
unfolding events_of
events_of-none = refl

event_of-moment_of : (state : RunState) (event : Event) → event_of (moment_of state event) ≡ event
event_of-moment_of state (event.Begin thread op server) = refl
event_of-moment_of state (event.Step thread by place found left answer) = refl

AllCome-push : (claim : Claimed) (events : List Event) (event : Event) → AllCome claim.state events
    → CanCome (claimed_after_all claim events).state event → AllCome claim.state (events ++ event ∷ [])
AllCome-push claim [] event come can = (can, tt)
AllCome-push claim (first ∷ events) event come can =
    (come.0, AllCome-push (claimed_after claim first) events event come.1 can)

-- What the core's state claims.

map-replicate : {X Y : Type 0} (f : X → Y) (n : ℕ) (x : X) → map f (replicate n x) ≡ replicate n (f x)
map-replicate f zero x = refl
map-replicate f (suc n) x = ap (λ rest. f x ∷ rest) (map-replicate f n x)

abbrev entry_of : ThreadState → ThreadEntry
entry_of NotEnrolled = entry.NotEnrolled
entry_of (Idle number) = entry.Idle number
entry_of (InCall call phase) = entry.InCall call.number call.server

abbrev state_of : CoreState → RunState
state_of core = record { words = core.shared; threads = map entry_of core.threads }

abbrev claim_of : World → Claimed
claim_of w = record { state = state_of w.core; past = w.past }

entry-at : (core : CoreState) (thread : ℕ) (state : ThreadState) → thread_at core thread ≡ state
    → entry_at (state_of core) thread ≡ entry_of state
entry-at core thread state stands = get_or-map entry_of core.threads thread NotEnrolled ∙ ap entry_of stands

inside-at : (core : CoreState) (thread : ℕ) → thread < length core.threads → thread < length (map entry_of core.threads)
inside-at core thread inside = rw length-map inside

-- Worlds, one more event.

-- a world is what the events of its past claim, which can come, and whose words follow
pub record Linked (s : Settings) (w : World) : Type 0 where
  pub same : claimed_after_all (opened_claim s) (events_of w.past) ≡ claim_of w
  pub come : AllCome (opened_state s) (events_of w.past)
  pub follow : AllFollow s (opened_state s) (events_of w.past)

Linked-start : (s : Settings) → Linked s (start_world s)
unfolding events_of
Linked-start s =
    record {
      same = ap (λ threads. record { state = record { words = (start_world s).core.shared; threads = threads }; past = [] })
          (sym (map-replicate entry_of s.threads NotEnrolled));
      come = tt;
      follow = tt;
    }

-- one more event, which the state of the world claims
Linked-event : (s : Settings) (w new : World) (event : Event) → Linked s w → CanCome (state_of w.core) event
    → Follows s (state_of w.core) event → claimed_after (claim_of w) event ≡ claim_of new → Linked s new
Linked-event s w new event linked can follows is =
    let events = events_of w.past in
    let moment = moment_of (state_of w.core) event in
    let past : moment ∷ w.past ≡ new.past = ap (λ (it : Claimed). it.past) is in
    let more : events_of new.past ≡ events ++ event ∷ [] =
    ap events_of (sym past) ∙ events_of-push moment w.past
    ∙ ap (λ e. events ++ e ∷ []) (event_of-moment_of (state_of w.core) event) in
    let P : Claimed → Type 0 = λ it. CanCome it.state event in
    let Q : Claimed → Type 0 = λ it. Follows s it.state event in
    record {
      same = rw more (claimed_after_all-push (opened_claim s) events event ∙ ap (λ it. claimed_after it event) linked.same ∙ is);
      come = rw more (AllCome-push (opened_claim s) events event linked.come (subst P (sym linked.same) can));
      follow = rw more (AllFollow-push s (opened_claim s) events event linked.follow (subst Q (sym linked.same) follows));
    }

-- Worlds, one more turn.

Linked-begun : (s : Settings) (w : World) (thread number : ℕ) (op : Op) (server : ℕ) → Linked s w
    → thread < length w.core.threads → thread_at w.core thread ≡ Idle number → server < length (abstract_of w.core)
    → Linked s (begun w thread op server)
Linked-begun s w thread number op server linked inside stands on_server =
    let idle = entry-at w.core thread (Idle number) stands in
    Linked-event s w (begun w thread op server) (event.Begin thread op server) linked
    ((inside-at w.core thread inside, subst IsThreadIdle (sym idle) tt), on_server) tt
    (rw (idle, stands, map-set) refl)

Linked-enrolled : (s : Settings) (w : World) (thread : ℕ) → Linked s w → thread < length w.core.threads
    → thread_at w.core thread ≡ NotEnrolled → Linked s (stepped_from w thread NotEnrolled)
Linked-enrolled s w thread linked inside stands =
    let old = w.core.shared.enrolled in
    let event : Event =
    event.Step thread kind.Enrol place.Enrolment (word.Enrolled old) (word.Enrolled (old + 1)) None in
    Linked-event s w (stepped_from w thread NotEnrolled) event linked (
      (inside-at w.core thread inside, entry-at w.core thread NotEnrolled stands),
      record { at_enrolment = refl; finds = refl; leaves = refl; silent = refl },
    )
    (record { finds = refl; can = (refl, refl) })
    (rw map-set refl)

-- an answer ends the call of a thread, as the decision does
answered-decided : (call : Call) (decision : Decision)
    → answered (decided_answer decision) (entry.InCall call.number call.server) ≡ entry_of (decided_state call decision)
answered-decided call (Goes lost phase) = refl
answered-decided call (Answers answer) = refl

module _ (s : Settings) (w : World) (thread : ℕ) (call : Call) (phase : Phase) where
  abbrev act : Action
  act = action_of call.number phase

  abbrev at_place : Place
  at_place = place_of w.core.settings call.server act

  abbrev found_word : Word
  found_word = word_at w.core.shared at_place

  abbrev left_word : Word
  left_word = word_after act found_word

  abbrev decision : Decision
  decision = follows w.core call phase

  abbrev step_event : Event
  step_event = event.Step thread (step_kind act) at_place found_word left_word (decided_answer decision)

  claimed-act : Acts w.core.settings w.core.shared call.server act → thread_at w.core thread ≡ InCall call phase
      → claimed_after (claim_of w) step_event ≡ claim_of (stepped_from w thread (InCall call phase))
  claimed-act acts stands =
      let words = words-left w.core.settings w.core.shared call.server act in
      rw (
        call-step act,
        ap (λ (it : Shared). it.servers) words,
        ap (λ (it : Shared). it.slots) words,
        acts.wins,
        entry-at w.core thread (InCall call phase) stands,
        answered-decided call decision,
        map-set,
      ) refl

  Linked-act : Linked s w → thread < length w.core.threads → thread_at w.core thread ≡ InCall call phase
      → w.core.settings ≡ s → HasPlace w.core.shared at_place → Acts w.core.settings w.core.shared call.server act
      → Linked s (stepped_from w thread (InCall call phase))
  Linked-act linked inside stands under there acts =
      let P : Settings → Type 0 = λ it. CanLeave it (room_at it w.core.shared.slots at_place) (step_kind act) found_word left_word in
      let has = subst HasCall (sym (entry-at w.core thread (InCall call phase) stands)) tt in
      Linked-event s w (stepped_from w thread (InCall call phase)) step_event linked
      (rw (call-step act) ((inside-at w.core thread inside, has), there))
      (record { finds = refl; can = subst P under acts.can })
      (claimed-act acts stands)

-- the step of the call, from what holds in each run
Linked-called : (s : Settings) (w : World) (thread : ℕ) (call : Call) (phase : Phase) → HoldsBoth s w → Linked s w
    → thread < length w.core.threads → thread_at w.core thread ≡ InCall call phase
    → Linked s (stepped_from w thread (InCall call phase))
Linked-called s w thread call phase both linked inside stands =
    let mine = rw stands at (both.1.stand thread) in
    let K : Settings → Type 0 = λ settings. Knows settings thread call mine.0 (server_at (abstract_of w.core) call.server) phase in
    let does = acts w.core thread call both.0.core inside mine.0 phase stands (subst K (sym both.0.settings) mine.2) in
    let there = has-place w.core.shared _ (IsPlace-at w.core thread call both.0.core inside phase stands) in
    Linked-act s w thread call phase linked inside stands both.0.settings there does

-- each run is what its events claim
pub Linked-run : (s : Settings) → IsWithinRanges s → (turns : List Turn) → Linked s (run s turns)
Linked-run =
    along Linked
    (λ s ranges. Linked-start s)
    (λ s w thread number op server both inside stands on_server linked. Linked-begun s w thread number op server linked inside stands on_server)
    (λ s w thread both inside stands linked. Linked-enrolled s w thread linked inside stands)
    (λ s w thread call phase both inside stands linked. Linked-called s w thread call phase both linked inside stands)
