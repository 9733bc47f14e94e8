-- Runs: turns of threads, one after another, from the opened core; what happened
-- at each; and the calls of a run, each with its own steps.
use Rattle.std.specs.Prelude.{ℕ, ◌+◌, Bool, false, ◌==◌, ◌&&◌, if◌then◌else◌, List, [], ◌∷◌, Option, None, unwrap_or}
use Rattle.tko_model.specs.declared.mark.Op.{Op}
use Rattle.tko_model.specs.declared.mark.Reply.{Reply}
use Rattle.tko_model.specs.Settings.{Settings}
use Rattle.tko_model.specs.declared.state.ServerState.{ServerState}
use Rattle.tko_model.specs.Ranges.{IsWithinRanges}
use Rattle.tko_steps.specs.declared.step.StepKind.{StepKind}
use Rattle.tko_steps.specs.declared.step.Place.{Place}
use Rattle.tko_steps.specs.declared.step.Stepped.{Stepped}
use Rattle.tko_steps.specs.declared.step.Stepped.TheVariants.{NoThread, Idle, Did}
use Rattle.tko_steps.specs.declared.step.Word.{Word}
use Rattle.tko_steps.specs.Core.{CoreState, abstract_of, after_begin, after_step, begin_fault, is_call_step, drawn_number, opened_core, thread_at, reported_by_step, unless_fault}
use Rattle.tko_steps.specs.Steps.{is_server, owns_after}

-- a turn: a begin of any thread, of any operation on any server, or a step of any thread
pub data Turn : Type 0 where
  Begin : (thread : ℕ) (op : Op) (server : ℕ) → Turn
  Step : (thread : ℕ) → Turn

-- a step that was taken, with the abstract states before and after it
pub record StepTaken : Type 0 where
  pub thread : ℕ
  pub kind : StepKind
  pub place : Place
  pub found : Word
  pub left : Word
  pub won : Bool
  pub answer : Option Reply
  pub before : List ServerState
  pub after : List ServerState

-- what happened: a call of a thread with this number began, or a step was taken
pub data Moment : Type 0 where
  Began : (thread number : ℕ) (op : Op) (server : ℕ) → Moment
  Took : StepTaken → Moment

-- the core, and what happened so far, the newest first
pub record World : Type 0 where
  pub core : CoreState
  pub past : List Moment

-- a call that a thread begins in this core
abbrev pub began : CoreState → ℕ → Op → ℕ → Moment
began core thread op server =
    Began thread (unwrap_or (drawn_number (thread_at core thread)) 0) op server

-- the past with what a step reported, if it did anything
abbrev pub with_reported : List Moment → ℕ → List ServerState → List ServerState → Stepped
    → List Moment
with_reported past thread before after NoThread = past
with_reported past thread before after Idle = past
with_reported past thread before after (Did kind place found left won answer) =
    Took
    (record {
      thread = thread;
      kind = kind;
      place = place;
      found = found;
      left = left;
      won = won;
      answer = answer;
      before = before;
      after = after;
    })
    ∷ past

-- a turn; one that is refused, or of a thread that has nothing to do, changes nothing
abbrev pub happens : World → Turn → World
happens w (Begin thread op server) =
    let refused = begin_fault w.core thread server in
    record {
      core = after_begin w.core thread op server;
      past = unless_fault refused (began w.core thread op server ∷ w.past) w.past;
    }
happens w (Step thread) =
    let new = after_step w.core thread in
    let reported = reported_by_step w.core thread in
    record {
      core = new;
      past = with_reported w.past thread (abstract_of w.core) (abstract_of new) reported;
    }

-- turns, one after another
abbrev pub after_turns : World → List Turn → World
after_turns w [] = w
after_turns w (turn ∷ turns) = after_turns (happens w turn) turns

abbrev pub start_world : Settings → World
start_world s = record { core = opened_core s; past = [] }

-- the run of these turns
abbrev pub run : Settings → List Turn → World
run s turns = after_turns (start_world s) turns

-- what holds after every list of turns, under all settings in range
abbrev pub InEveryRun : (Settings → World → Type 0) → Type 0
InEveryRun P = (s : Settings) → IsWithinRanges s → (turns : List Turn) → P s (run s turns)

-- whether the thread at this place owns the server after this past
abbrev pub owns_in_past : List Moment → ℕ → ℕ → Bool
owns_in_past [] thread server = false
owns_in_past (Began own number op at ∷ past) thread server = owns_in_past past thread server
owns_in_past (Took step ∷ past) thread server =
    if is_server server step.place && (step.thread == thread)
    then owns_after step.kind step.won step.left (owns_in_past past thread server)
    else owns_in_past past thread server

-- a step of a call, and its number among all steps of calls, from 1
pub record OwnStep : Type 0 where
  pub at : ℕ
  pub step : StepTaken

-- a call: its thread, its operation, its own steps, the newest first, and its answer, if it has one
pub record RunCall : Type 0 where
  pub thread : ℕ
  pub number : ℕ
  pub op : Op
  pub server : ℕ
  pub steps : List OwnStep
  pub answer : Option Reply

-- a call without a step
abbrev pub begun_call : ℕ → ℕ → Op → ℕ → RunCall
begun_call thread number op server =
    record { thread = thread; number = number; op = op; server = server; steps = []; answer = None }

-- a step of a call counts, an enrolment does not
abbrev pub step_count_of : StepKind → ℕ
step_count_of kind = if is_call_step kind then 1 else 0

-- how many steps of calls were taken
abbrev pub steps_in : List Moment → ℕ
steps_in [] = 0
steps_in (Began thread number op server ∷ past) = steps_in past
steps_in (Took step ∷ past) = steps_in past + step_count_of step.kind

-- a step that follows this past, with its number
abbrev pub own_step : StepTaken → List Moment → OwnStep
own_step step past = record { at = steps_in (Took step ∷ past); step = step }

-- the call with one more step
abbrev pub and_step : RunCall → OwnStep → RunCall
and_step call own =
    record call { steps = own ∷ call.steps; answer = own.step.answer }

-- a step belongs to the call that its thread began last
abbrev pub with_step : OwnStep → List RunCall → List RunCall
with_step own [] = []
with_step own (call ∷ calls) =
    if call.thread == own.step.thread then and_step call own ∷ calls else call ∷ with_step own calls

-- the calls of a past, the newest begin first
abbrev pub calls_of : List Moment → List RunCall
calls_of [] = []
calls_of (Began thread number op server ∷ past) =
    begun_call thread number op server ∷ calls_of past
calls_of (Took step ∷ past) =
    with_step (own_step step past) (calls_of past)
