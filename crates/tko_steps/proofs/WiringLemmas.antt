-- From what is said of one turn that does something to each turn, whatever is kept along a run.
use Rattle.std.proofs.Common.{◌≡◌, ℕ, ◌<◌, Bool, true, false, cond, ltb, List, [], ◌∷◌, ◌++◌, length, Option, Some, None, refl}
use Rattle.std.proofs.lemmas.Bool.{ltb-true}
use Rattle.tko_model.specs.declared.mark.Op.{Op}
use Rattle.tko_model.specs.Settings.{Settings}
use Rattle.tko_steps.specs.declared.step.BeginFault.{BeginFault}
use Rattle.tko_steps.specs.declared.step.BeginFault.TheVariants as fault
use Rattle.tko_steps.specs.declared.step.Stepped.TheVariants as stepped
use Rattle.tko_steps.specs.declared.phase.ThreadState.{ThreadState}
use Rattle.tko_steps.specs.declared.phase.ThreadState.TheVariants.{NotEnrolled, Idle, InCall}
use Rattle.tko_steps.specs.Core.{CoreState, abstract_of, after_step_from, begin_fault, fault_at, thread_at, reported_from, unless_fault, with_thread}
use Rattle.tko_steps.specs.Steps.{in_call}
use Rattle.tko_steps.specs.Runs.{Begin, Step, Turn, World, after_turns, began, happens, run, start_world, with_reported}

-- the world once a call of an idle thread began
abbrev pub begun : World → ℕ → Op → ℕ → World
begun w thread op server =
    record {
      core = with_thread w.core thread (in_call (thread_at w.core thread) op server);
      past = began w.core thread op server ∷ w.past;
    }

-- the world after a step of the thread at this place, which stands there
abbrev pub stepped_from : World → ℕ → ThreadState → World
stepped_from w thread state =
    record {
      core = after_step_from w.core thread state;
      past = with_reported w.past thread (abstract_of w.core) (abstract_of (after_step_from w.core thread state)) (reported_from w.core state);
    }

keeps-either : (P : World → Type 0) (w : World) (thread : ℕ) (state : ThreadState) (test : Bool) → P w
    → (test ≡ true → P (stepped_from w thread state))
    → (let new : CoreState = cond test (after_step_from w.core thread state) w.core in
    let told = cond test (reported_from w.core state) stepped.NoThread in
    P (record { core = new; past = with_reported w.past thread (abstract_of w.core) (abstract_of new) told }))
keeps-either P w thread state true holds next = next refl
keeps-either P w thread state false holds next = holds

-- what holds of a world, and after a step of a thread that is there, holds after each step
pub keeps-step : (P : World → Type 0) (w : World) (thread : ℕ) → P w
    → (thread < length w.core.threads → P (stepped_from w thread (thread_at w.core thread)))
    → P (happens w (Step thread))
keeps-step P w thread holds next =
    keeps-either P w thread (thread_at w.core thread) (ltb thread (length w.core.threads)) holds
    (λ inside. next (ltb-true thread (length w.core.threads) inside))

-- where no fault is told, the thread is idle and the server is there
fault_at-none : (state : ThreadState) (is_server : Bool) → fault_at state is_server ≡ None
    → ((number : ℕ) × (state ≡ Idle number)) × (is_server ≡ true)
fault_at-none NotEnrolled is_server e = cc
fault_at-none (Idle number) true e = ((number, refl), refl)
fault_at-none (Idle number) false e = cc
fault_at-none (InCall call phase) is_server e = cc

unless_no_thread-none : (test : Bool) (found : Option BeginFault) → cond test found (Some fault.NoThread) ≡ None
    → (test ≡ true) × (found ≡ None)
unless_no_thread-none true found e = (refl, e)
unless_no_thread-none false found e = cc

keeps-unless_fault : (P : World → Type 0) (w new : World) (found : Option BeginFault) → P w → (found ≡ None → P new)
    → P (record { core = unless_fault found new.core w.core; past = unless_fault found new.past w.past })
keeps-unless_fault P w new None holds next = next refl
keeps-unless_fault P w new (Some fault) holds next = holds

-- what holds of a world, and after a begin of an idle thread on a server that is there, holds after each begin
pub keeps-begin : (P : World → Type 0) (w : World) (thread : ℕ) (op : Op) (server : ℕ) → P w
    → ((number : ℕ) → thread < length w.core.threads → thread_at w.core thread ≡ Idle number
    → server < length (abstract_of w.core) → P (begun w thread op server))
    → P (happens w (Begin thread op server))
keeps-begin P w thread op server holds next =
    let state = thread_at w.core thread in
    let is_server = ltb server (length (abstract_of w.core)) in
    keeps-unless_fault P w (begun w thread op server) (begin_fault w.core thread server) holds (λ none.
    let first = unless_no_thread-none (ltb thread (length w.core.threads)) (fault_at state is_server) none in
    let second = fault_at-none state is_server first.1 in
    next second.0.0 (ltb-true thread (length w.core.threads) first.0) second.0.1
    (ltb-true server (length (abstract_of w.core)) second.1))

-- a run goes on by one turn
pub after_turns-push : (w : World) (turns : List Turn) (turn : Turn)
    → after_turns w (turns ++ turn ∷ []) ≡ happens (after_turns w turns) turn
after_turns-push w [] turn = refl
after_turns-push w (first ∷ turns) turn = after_turns-push (happens w first) turns turn

pub run-push : (s : Settings) (turns : List Turn) (turn : Turn) → run s (turns ++ turn ∷ []) ≡ happens (run s turns) turn
run-push s turns turn = after_turns-push (start_world s) turns turn
