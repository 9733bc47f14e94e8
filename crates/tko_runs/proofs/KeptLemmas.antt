-- What a state keeps of the calls is kept by a begin, by a step, and by an enrolment.
use Rattle.std.proofs.Common.{◌≡◌, ℕ, ◌<◌, List, [], ◌∷◌, length, get_or, reverse, Option, Some, None, refl, sym, ap, ◌∙◌, subst, arith, length-append, length-set}
use Rattle.std.proofs.lemmas.List.{reverse-append, length-reverse}
use Rattle.std.proofs.lemmas.List.Elements.{All-append, All-cons, All-nil, All-set}
use Rattle.tko_model.specs.declared.mark.Op.{Op}
use Rattle.tko_model.specs.declared.mark.Reply.{Reply}
use Rattle.tko_model.specs.Settings.{Settings}
use Rattle.tko_model.specs.declared.state.ServerState.{ServerState}
use Rattle.tko_model.specs.declared.transition.Transition.{Transition}
use Rattle.tko_model.specs.Tracker.{changed, transition_on}
use Rattle.tko_runs.specs.declared.checking.calls.CheckedCalls.{CheckedCalls}
use Rattle.tko_runs.specs.declared.checking.point.CheckedCall.{CheckedCall}
use Rattle.tko_runs.specs.declared.checking.effect.Effect.{Effect}
use Rattle.tko_runs.specs.declared.run.state.ThreadEntry.{ThreadEntry}
use Rattle.tko_runs.specs.declared.run.state.ThreadEntry.TheVariants.{NotEnrolled, Idle, InCall}
use Rattle.tko_runs.specs.States.{HasCall, IsThreadIdle, RunState, answered, entry_at, entry_in_call, servers_written, state_with_word, with_answer, with_begin, with_enrolment}
use Rattle.tko_steps.specs.declared.step.Place.{Place}
use Rattle.tko_steps.specs.declared.step.Place.TheVariants as place
use Rattle.tko_steps.specs.declared.step.Word.{Word}
use Rattle.tko_steps.specs.declared.step.Word.TheVariants as word
use Rattle.tko_runs.specs.CheckStates.{AreCalls, HasBegun, HasGrown, HasStepped, IsLatest, Shows, latest_place, transition_of}
use Rattle.tko_runs.specs.Effects.{AreEffects, IsCallKept, IsEffect}
use Rattle.tko_steps.specs.Legal.{TakesEffect, tracker_in}
use Rattle.tko_steps.specs.Runs.{Began, Moment, OwnStep, RunCall, StepTaken, Took, and_step, begun_call, calls_of, own_step, with_step}
use Rattle.tko_runs.proofs.CallListLemmas.{AllLatest-begun, AllLatest-set, IsLatest-answered, get_reversed, has_latest, latest_place-with_step, length-AreKept, set_reversed, with_step-no_call}

-- What a step shows.

-- one more step leaves what a call's other steps show
TakesEffect-and_step : (s : Settings) (call : RunCall) (own : OwnStep) (reply : Reply) (step : StepTaken)
    → TakesEffect s call reply step → TakesEffect s (and_step call own) reply step
TakesEffect-and_step s call own reply step effect = record { reply = effect.reply; change = effect.change }

TakesEffect-without_step : (s : Settings) (call : RunCall) (own : OwnStep) (reply : Reply) (step : StepTaken)
    → TakesEffect s (and_step call own) reply step → TakesEffect s call reply step
TakesEffect-without_step s call own reply step effect = record { reply = effect.reply; change = effect.change }

IsEffect-and_step : (s : Settings) (call : RunCall) (own other : OwnStep) (effect : Effect) → IsEffect s call other effect
    → IsEffect s (and_step call own) other effect
IsEffect-and_step s call own other effect is =
    record {
      number = is.number;
      quiet = is.quiet;
      gives = λ reply. (
        λ e. TakesEffect-and_step s call own reply other.step ((is.gives reply).0 e),
        λ effect. (is.gives reply).1 (TakesEffect-without_step s call own reply other.step effect),
      );
    }

AreEffects-and_step : (s : Settings) (call : RunCall) (own : OwnStep) (steps : List OwnStep) (effects : List Effect)
    → AreEffects s call steps effects → AreEffects s (and_step call own) steps effects
AreEffects-and_step s call own [] [] are = tt
AreEffects-and_step s call own [] (effect ∷ effects) are = absurd are
AreEffects-and_step s call own (step ∷ steps) [] are = absurd are
AreEffects-and_step s call own (step ∷ steps) (effect ∷ effects) are =
    (IsEffect-and_step s call own step effect are.0, AreEffects-and_step s call own steps effects are.1)

-- what is shown of a call is its effect
pub IsEffect-shown : (s : Settings) (servers new : List ServerState) (kept : CheckedCall)
    (effect : Effect) (call : RunCall) (own : OwnStep) → Shows s servers kept new effect
    → effect.at ≡ own.at → kept.number ≡ call.number → kept.op ≡ call.op → kept.server ≡ call.server
    → servers ≡ own.step.before → new ≡ own.step.after → IsEffect s call own effect
IsEffect-shown s servers new kept effect call own shows at numbered asks on_server before after =
    let one : Transition = transition_of s servers kept in
    let other : Transition = transition_on (tracker_in s own.step.before) call.number call.op call.server in
    let same : one ≡ other = rw (numbered, asks, on_server, before) refl in
    let replies : one.reply ≡ other.reply = ap (λ (t : Transition). t.reply) same in
    let changes : changed servers kept.server one.change ≡ changed own.step.before call.server other.change =
    rw (same, on_server, before) refl in
    record {
      number = at;
      quiet = (
        λ yes. sym after ∙ (shows.quiet.0 yes ∙ before),
        λ quiet. shows.quiet.1 (after ∙ (quiet ∙ sym before)),
      );
      gives = λ reply. (
        λ e.
            let p = (shows.gives reply).0 e in
            record { reply = sym replies ∙ p.reply; change = sym changes ∙ (p.change ∙ after) },
        λ effect. (shows.gives reply).1 (record { reply = replies ∙ effect.reply; change = changes ∙ (effect.change ∙ sym after) }),
      );
    }

-- What is kept of the calls.

IsKept-begun : (s : Settings) (thread number : ℕ) (op : Op) (server : ℕ) (call : CheckedCall) → call.number ≡ number
    → call.op ≡ op → call.server ≡ server → call.answer ≡ None → call.steps.items ≡ []
    → IsCallKept s (begun_call thread number op server) call
IsKept-begun s thread number op server call numbered asks on_server open_yet no_step =
    record {
      number = numbered;
      op = asks;
      server = on_server;
      answer = open_yet;
      steps = rw no_step tt;
    }

is_idle_latest : (entry : ThreadEntry) (server place : ℕ) → IsThreadIdle entry
    → IsLatest (entry_in_call entry server) (Some place) place
is_idle_latest NotEnrolled server place idle = absurd idle
is_idle_latest (Idle number) server place idle = refl
is_idle_latest (InCall number on) server place idle = absurd idle

has_call_latest : (state : ThreadEntry) (found : Option ℕ) (place : ℕ) → HasCall state → IsLatest state found place
    → found ≡ Some place
has_call_latest NotEnrolled found place has is = absurd has
has_call_latest (Idle number) found place has is = absurd has
has_call_latest (InCall number server) found place has is = is

pub AreCalls-begun : (s : Settings) (state : RunState) (past : List Moment) (old new : CheckedCalls) (thread number : ℕ) (op : Op) (server : ℕ)
    → AreCalls s state past old → HasBegun old thread number op server new → thread < length state.threads
    → server < length state.words.servers → IsThreadIdle (entry_at state thread)
    → AreCalls s (with_begin state thread server) (Began thread number op server ∷ past) new
AreCalls-begun s state past old new thread number op server are begun inside is_server idle =
    let P : CheckedCall → Type 0 = λ call. call.server < length state.words.servers in
    let calls = calls_of past in
    let long : length calls ≡ length old.all.items =
    length-AreKept s calls (reverse old.all.items) are.kept ∙ length-reverse old.all.items in
    let entry = entry_in_call (entry_at state thread) server in
    let latest = AllLatest-begun state.threads thread number op server entry calls old.latest.items
    inside (omega (arith, are.threads)) (is_idle_latest (entry_at state thread) server (length calls) idle) are.latest in
    record {
      kept = rw (begun.calls, reverse-append old.all.items (begun.call ∷ []))
          (IsKept-begun s thread number op server begun.call begun.numbered begun.asks begun.on_server begun.open_yet begun.no_step, are.kept);
      latest = rw (begun.latest, ← long) latest;
      threads = rw (begun.latest, length-set, length-set) are.threads;
      on_server = rw begun.calls (All-append P old.all.items (begun.call ∷ []) are.on_server
          (All-cons P begun.call [] (rw begun.on_server is_server) (All-nil P)));
    }

-- the latest call of a thread with a call is there
pub latest_inside : (s : Settings) (state : RunState) (past : List Moment) (own : CheckedCalls) (thread : ℕ) → AreCalls s state past own
    → HasCall (entry_at state thread) → get_or own.latest.items thread 0 < length own.all.items
latest_inside s state past own thread are has =
    let calls = calls_of past in
    let kept = reverse own.all.items in
    let at = get_or own.latest.items thread 0 in
    let found = has_call_latest (entry_at state thread) (latest_place thread calls) at has (are.latest thread) in
    let it = has_latest s calls kept thread at are.kept found in
    omega (arith, length-reverse own.all.items, ap length it.split, length-append it.newer (it.own ∷ it.older), it.place_is)

IsKept-stepped : (s : Settings) (call : RunCall) (step : OwnStep) (own new : CheckedCall) (effect : Effect) (answer : Option Reply)
    → IsCallKept s call own → HasGrown own effect answer new → answer ≡ step.step.answer → IsEffect s call step effect
    → IsCallKept s (and_step call step) new
IsKept-stepped s call step own new effect answer is grown same shown =
    record {
      number = grown.numbered ∙ is.number;
      op = grown.asks ∙ is.op;
      server = grown.on_server ∙ is.server;
      answer = grown.answered ∙ same;
      steps = rw (grown.one_more, reverse-append own.steps.items (effect ∷ []))
          (IsEffect-and_step s call step step effect shown, AreEffects-and_step s call step call.steps (reverse own.steps.items) is.steps);
    }

-- a step leaves as many servers as it found
pub length-written : (servers : List ServerState) (at : Place) (left : Word) → length (servers_written servers at left) ≡ length servers
length-written servers (place.Server server) (word.Server left) = length-set servers server left
length-written servers (place.Server server) (word.Soft slots) = refl
length-written servers (place.Server server) (word.Enrolled count) = refl
length-written servers (place.Soft group) left = refl
length-written servers place.Enrolment left = refl

-- a thread took a step of its call
pub AreCalls-stepped : (s : Settings) (state : RunState) (past : List Moment) (old new : CheckedCalls) (effect : Effect) (answer : Option Reply)
    (at : Place) (left : Word) (step : StepTaken) → AreCalls s state past old → (grows : HasStepped old step.thread effect answer new)
    → step.thread < length state.threads → HasCall (entry_at state step.thread)
    → answer ≡ step.answer
    → ((call : RunCall) → IsCallKept s call grows.call → IsEffect s call (own_step step past) effect)
    → AreCalls s (with_answer (state_with_word state at left) step.thread answer) (Took step ∷ past) new
AreCalls-stepped s state past old new effect answer at left step are grows inside has same shown =
    let P : CheckedCall → Type 0 = λ call. call.server < length state.words.servers in
    let own_one : OwnStep = own_step step past in
    let thread = step.thread in
    let calls = calls_of past in
    let place_of = get_or old.latest.items thread 0 in
    let entry = entry_at state thread in
    let found = has_call_latest entry (latest_place thread calls) place_of has (are.latest thread) in
    let it = has_latest s calls (reverse old.all.items) thread place_of are.kept found in
    let own : grows.call ≡ it.own =
    grows.is ∙ get_reversed old.all.items it.newer it.older it.own grows.call place_of it.split it.place_is in
    let K : CheckedCall → Type 0 = λ call. IsCallKept s it.call call in
    let is = subst K (sym own) it.is_kept in
    let is_now = IsKept-stepped s it.call own_one grows.call grows.now effect answer is grows.grown same (shown it.call is) in
    let there = latest_inside s state past old thread are has in
    let server : grows.call.server < length state.words.servers =
    subst P (sym grows.is) (are.on_server place_of grows.call there) in
    record {
      kept = rw (grows.calls, set_reversed old.all.items it.newer it.older it.own grows.now place_of it.split it.place_is)
          (it.next own_one grows.now refl is_now);
      latest = rw grows.latest
          (AllLatest-set state.threads thread (answered answer entry) calls (with_step own_one calls) old.latest.items
          inside (latest_place-with_step own_one calls)
          (IsLatest-answered answer entry (latest_place thread calls) place_of (are.latest thread)) are.latest);
      threads = rw (grows.latest, length-set) are.threads;
      on_server = rw (grows.calls, length-written)
          (All-set P old.all.items place_of grows.now (rw grows.grown.on_server server) are.on_server);
    }

-- a thread that isn't enrolled began no call
pub AreCalls-enrolled : (s : Settings) (state : RunState) (past : List Moment) (own : CheckedCalls) (step : StepTaken)
    → AreCalls s state past own → step.thread < length state.threads → entry_at state step.thread ≡ NotEnrolled
    → AreCalls s (with_enrolment state step.thread) (Took step ∷ past) own
AreCalls-enrolled s state past own step are inside stands =
    let own_one : OwnStep = own_step step past in
    let thread = step.thread in
    let calls = calls_of past in
    let none : latest_place thread calls ≡ None = rw stands at (are.latest thread) in
    let same : with_step own_one calls ≡ calls = with_step-no_call own_one calls none in
    record {
      kept = rw same are.kept;
      latest = AllLatest-set state.threads thread (Idle state.words.enrolled) calls (with_step own_one calls) own.latest.items
          inside (latest_place-with_step own_one calls) tt are.latest;
      threads = rw length-set are.threads;
      on_server = are.on_server;
    }
