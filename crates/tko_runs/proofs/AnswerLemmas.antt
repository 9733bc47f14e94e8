-- Run lines: the steps of a thread until it has no call.
use Rattle.std.proofs.Common.{◌≡◌, ℕ, zero, suc, ◌+◌, ◌-◌, ◌<◌, ◌≤◌, Bool, true, false, cond}
use Rattle.std.proofs.Common.{length, replicate, ◌⊎◌, inl, inr, refl, sym, ap, ◌∙◌, subst, arith}
use Rattle.std.proofs.lemmas.Bool.{cases_Bool, cases_lt, lt-ltb}
use Rattle.std.proofs.lemmas.List.{get_or-set_same, get_or_past}
use Rattle.tko_model.specs.Ranges.{IsWithinRanges}
use Rattle.tko_runs.specs.declared.schedule.command.Command.TheVariants as command
use Rattle.tko_runs.specs.Limits.{max_steps}
use Rattle.tko_runs.specs.Plays.{Played, RunsToAnswers, after_all_turns, after_commands, after_turn}
use Rattle.tko_runs.specs.Plays.{enrolled, steps_to_answer}
use Rattle.tko_runs.specs.Schedules.{Plan}
use Rattle.tko_runs.proofs.PlayLemmas.{IsRun-played, after_commands-push}
use Rattle.tko_steps.specs.declared.phase.ThreadState.{ThreadState}
use Rattle.tko_steps.specs.declared.phase.ThreadState.TheVariants.{NotEnrolled, Idle, InCall}
use Rattle.tko_steps.specs.Core.{CoreState, after_act, after_step, after_step_from, follows}
use Rattle.tko_steps.specs.Core.{thread_at}
use Rattle.tko_steps.specs.Owners.{has_call}
use Rattle.tko_steps.specs.Steps.{decided_state}
use Rattle.tko_steps.specs.Invariant.{IsCore}
use Rattle.tko_steps.specs.Runs.{Step}
use Rattle.tko_steps.proofs.PhaseStepLemmas.{IsCore-after_act, knows_at}
use Rattle.tko_steps.proofs.RunLemmas.{Holds-run}
use Rattle.tko_runs.proofs.StepsLeftLemmas.{left_of, most-left, nearer, some-left}

-- a thread without a call takes no steps
pub steps_to_answer-none : (most : ℕ) (core : CoreState) (thread : ℕ)
    → has_call (thread_at core thread) ≡ false
    → steps_to_answer most core thread ≡ 0
unfolding steps_to_answer
steps_to_answer-none zero core thread none = refl
steps_to_answer-none (suc most) core thread none = rw none refl

-- one with a call takes a step, and then those that are left
pub steps_to_answer-more : (most : ℕ) (core : CoreState) (thread : ℕ)
    → has_call (thread_at core thread) ≡ true
    → steps_to_answer (suc most) core thread
    ≡ suc (steps_to_answer most (after_step core thread) thread)
unfolding steps_to_answer
steps_to_answer-more most core thread calls = rw calls refl

-- The loop over the steps of a run line.

-- `p` is what is known of the player `q` by its parts
pub sees_call : (p q : Played) (thread : ℕ) {result test : Bool} → p ≡ q → result
    ≡ has_call (thread_at p.core thread)
    → result ≡ test → has_call (thread_at q.core thread) ≡ test
sees_call p q thread is found tested =
    sym (ap (λ (r : Played). has_call (thread_at r.core thread)) is) ∙ sym found ∙ tested

-- a step of a thread with a call
pub run-more : (p new all : Played) (thread k : ℕ) → k < max_steps
    → has_call (thread_at p.core thread) ≡ true
    → new ≡ after_all_turns p (replicate 1 (Step thread))
    → after_all_turns p (replicate (steps_to_answer (max_steps - k) p.core thread) (Step thread)) ≡ all
    → after_all_turns new (replicate (steps_to_answer (max_steps - (k + 1)) new.core thread)
    (Step thread)) ≡ all
run-more p new all thread k low calls stepped is =
    let one : max_steps - k ≡ suc (max_steps - (k + 1)) = omega (arith, low) in
    let steps = ap (λ most. steps_to_answer most p.core thread) one
    ∙ steps_to_answer-more (max_steps - (k + 1)) p.core thread calls in
    let rest : Played → Played = λ q.
    after_all_turns q (replicate (steps_to_answer (max_steps - (k + 1)) q.core thread) (Step thread)) in
    ap rest stepped
    ∙ sym (ap (λ n. after_all_turns p (replicate n (Step thread))) steps)
    ∙ is

-- a thread whose call is answered
pub run-answered : (p all : Played) (thread most : ℕ) → has_call (thread_at p.core thread) ≡ false
    → after_all_turns p (replicate (steps_to_answer most p.core thread) (Step thread)) ≡ all → p ≡ all
run-answered p all thread most none is =
    sym (ap (λ n. after_all_turns p (replicate n (Step thread)))
    (steps_to_answer-none most p.core thread none)) ∙ is

-- as many steps as there may be
pub run-most : (p all : Played) (thread k : ℕ) → max_steps ≤ k
    → after_all_turns p (replicate (steps_to_answer (max_steps - k) p.core thread) (Step thread)) ≡ all
    → p ≡ all
unfolding steps_to_answer
run-most p all thread k high is =
    let none : max_steps - k ≡ 0 = omega (arith, high) in
    sym (ap (λ most. after_all_turns p (replicate (steps_to_answer most p.core thread)
    (Step thread))) none) ∙ is

-- A thread that takes steps until its call is answered.

-- a thread that is not there has no call
is_inside : (core : CoreState) (thread : ℕ) → has_call (thread_at core thread) ≡ true
    → (thread < length core.threads) ⊎ (length core.threads ≤ thread) → thread < length core.threads
is_inside core thread calls (inl low) = low
is_inside core thread calls (inr high) =
    let none : has_call (thread_at core thread) ≡ false =
    ap has_call (get_or_past core.threads thread NotEnrolled high) in
    cc

-- a step of a thread with a call keeps the core's invariant, and leaves fewer steps
record IsAhead (core new : CoreState) (thread : ℕ) : Type 0 where
  is : IsCore new
  settings : new.settings ≡ core.settings
  fewer : left_of core.settings (thread_at new thread) < left_of core.settings
      (thread_at core thread)

ahead-from : (core : CoreState) (thread : ℕ) (state : ThreadState) → IsCore core
    → thread < length core.threads
    → thread_at core thread ≡ state → has_call state ≡ true
    → IsAhead core (after_step_from core thread state) thread
ahead-from core thread NotEnrolled is inside stands calls = cc
ahead-from core thread (Idle number) is inside stands calls = cc
ahead-from core thread (InCall call phase) is inside stands calls =
    let tries = (knows_at core thread call is inside phase stands).1 in
    let new = decided_state call (follows core call phase) in
    let there : thread_at (after_act core thread call phase) thread ≡ new =
    get_or-set_same core.threads thread new NotEnrolled inside in
    record {
      is = IsCore-after_act core thread call is inside phase stands;
      settings = refl;
      fewer = rw (there, stands) (nearer core.settings call tries core.shared phase);
    }

ahead : (core : CoreState) (thread : ℕ) → IsCore core → has_call (thread_at core thread) ≡ true
    → IsAhead core (after_step core thread) thread
ahead core thread is calls =
    let low = is_inside core thread calls (cases_lt thread (length core.threads)) in
    let P : Bool → Type 0 = λ test.
    IsAhead core (cond test (after_step_from core thread (thread_at core thread)) core) thread in
    subst P (sym (lt-ltb thread (length core.threads) low))
    (ahead-from core thread (thread_at core thread) is low refl calls)

-- a thread with no step left has no call
none-left : (core : CoreState) (thread : ℕ) (state : ThreadState) → IsCore core
    → thread_at core thread ≡ state
    → left_of core.settings state ≤ 0 → has_call state ≡ false
none-left core thread NotEnrolled is stands none = refl
none-left core thread (Idle number) is stands none = refl
none-left core thread (InCall call phase) is stands none =
    let inside = is_inside core thread (ap has_call stands)
    (cases_lt thread (length core.threads)) in
    let tries = (knows_at core thread call is inside phase stands).1 in
    absurd (omega (arith, none, some-left core.settings call tries phase))

-- a core after so many steps of a thread
after_steps : ℕ → CoreState → ℕ → CoreState
after_steps zero core thread = core
after_steps (suc n) core thread = after_steps n (after_step core thread) thread

core-after_all : (p : Played) (thread n : ℕ) → (after_all_turns p (replicate n (Step thread))).core
    ≡ after_steps n p.core thread
unfolding after_steps
core-after_all p thread zero = refl
core-after_all p thread (suc n) = core-after_all (after_turn p (Step thread)) thread n

answered-steps : (most : ℕ) (core : CoreState) (thread : ℕ) → IsCore core
    → left_of core.settings (thread_at core thread) ≤ most
    → has_call (thread_at (after_steps (steps_to_answer most core thread) core thread) thread)
    ≡ false
unfolding steps_to_answer after_steps
answered-steps zero core thread is few = none-left core thread (thread_at core thread) is refl few
answered-steps (suc most) core thread is few =
    let P : ℕ → Type 0 = λ n. has_call (thread_at (after_steps n core thread) thread) ≡ false in
    elim (cases_Bool (has_call (thread_at core thread))) [
      | inl calls ↦
          let new = after_step core thread in
          let on = ahead core thread is calls in
          let fewer : left_of new.settings (thread_at new thread) ≤ most =
          subst (λ s. left_of s (thread_at new thread) ≤ most) (sym on.settings)
          (omega (arith, on.fewer, few)) in
          subst P (sym (steps_to_answer-more most core thread calls))
          (answered-steps most new thread on.is fewer)
      | inr none ↦ subst P (sym (steps_to_answer-none (suc most) core thread none)) none
    ]

pub runs_to_answers : (plan : Plan) → IsWithinRanges plan.settings → RunsToAnswers plan
runs_to_answers plan ranges before others thread split =
    let opened = enrolled plan.settings in
    let p = after_commands opened before in
    let is = IsRun-played plan.settings before in
    let holds = Holds-run plan.settings ranges is.turns in
    let core : IsCore p.core = subst IsCore (sym is.core) holds.core in
    let n = steps_to_answer max_steps p.core thread in
    let P : CoreState → Type 0 = λ it. has_call (thread_at it thread) ≡ false in
    ap (λ (p : Played). has_call (thread_at p.core thread))
    (after_commands-push opened before (command.Run thread))
    ∙ subst P (sym (core-after_all p thread n))
    (answered-steps max_steps p.core thread core
    (most-left p.core.settings (thread_at p.core thread) core.settings))
