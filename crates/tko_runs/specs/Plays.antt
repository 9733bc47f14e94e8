-- Playing a schedule: all threads enrol, in the order of their places, and then do each command.
use Rattle.std.specs.Prelude.{◌≡◌, ℕ, zero, suc, false, if◌then◌else◌, List, [], ◌∷◌, ◌++◌, length, replicate, Option, Some, None}
use Rattle.tko_model.specs.declared.mark.Op.{Op}
use Rattle.tko_model.specs.Settings.{Settings}
use Rattle.tko_runs.specs.declared.schedule.command.Command.{Command}
use Rattle.tko_runs.specs.declared.schedule.command.Command.TheVariants as command
use Rattle.tko_runs.specs.declared.run.event.Event.{Event}
use Rattle.tko_runs.specs.declared.run.event.Event.TheVariants as event
use Rattle.tko_runs.specs.declared.run.event.SkippedTurn.{SkippedTurn}
use Rattle.tko_runs.specs.declared.run.event.SkippedTurn.TheVariants as skipped
use Rattle.tko_runs.specs.declared.version.Version.{Version}
use Rattle.tko_runs.specs.Limits.{max_steps}
use Rattle.tko_runs.specs.Schedules.{Plan}
use Rattle.tko_runs.specs.Runs.{Skip, RunData}
use Rattle.tko_steps.specs.declared.step.BeginFault.{BeginFault}
use Rattle.tko_steps.specs.declared.step.Stepped.{Stepped}
use Rattle.tko_steps.specs.declared.step.Stepped.TheVariants.{NoThread, Idle, Did}
use Rattle.tko_steps.specs.Core.{CoreState, after_begin, after_step, begin_fault, opened_core, thread_at, reported_by_step}
use Rattle.tko_steps.specs.Owners.{has_call}
use Rattle.tko_steps.specs.Runs.{Begin, Step, Turn}

-- the core, and the events and the skipped turns so far
pub record Played : Type 0 where
  pub core : CoreState
  pub events : List Event
  pub skips : List Skip

abbrev pub with_event : Played → Event → Played
with_event p event = record p { events = p.events ++ event ∷ [] }

-- a skipped turn after the events so far
abbrev pub skip_of : Played → SkippedTurn → Skip
skip_of p turn = record { after = length p.events; turn = turn }

abbrev pub with_skip : Played → SkippedTurn → Played
with_skip p turn = record p { skips = p.skips ++ skip_of p turn ∷ [] }

-- the same skipped turn, `times` times
abbrev pub with_skips : Played → SkippedTurn → ℕ → Played
with_skips p turn times = record p { skips = p.skips ++ replicate times (skip_of p turn) }

-- after a begin: it is an event, or a skipped turn
abbrev pub played_begin : Played → ℕ → Op → ℕ → Option BeginFault → Played
played_begin p thread op server None = with_event p (event.Begin thread op server)
played_begin p thread op server (Some fault) = with_skip p (skipped.Refused thread op server fault)

-- after a step: it is an event, or a skipped turn
abbrev pub played_step : Played → ℕ → Stepped → Played
played_step p thread NoThread = with_skip p (skipped.NoThread thread)
played_step p thread Idle = with_skip p (skipped.Idle thread)
played_step p thread (Did kind place found left won answer) =
    with_event p (event.Step thread kind place found left answer)

-- after one turn of the core
abbrev pub after_turn : Played → Turn → Played
after_turn p (Begin thread op server) =
    record (played_begin p thread op server (begin_fault p.core thread server)) {
      core = after_begin p.core thread op server;
    }
after_turn p (Step thread) =
    record (played_step p thread (reported_by_step p.core thread))
    { core = after_step p.core thread }

abbrev pub after_all_turns : Played → List Turn → Played
after_all_turns p [] = p
after_all_turns p (turn ∷ turns) = after_all_turns (after_turn p turn) turns

-- how many steps a thread takes until it has no call, or the bound if it still has one then
unfoldable pub steps_to_answer : ℕ → CoreState → ℕ → ℕ
steps_to_answer zero core thread = 0
steps_to_answer (suc most) core thread =
    if has_call (thread_at core thread)
    then suc (steps_to_answer most (after_step core thread) thread)
    else 0

-- the turns that a command asks for
abbrev pub command_turns : CoreState → Command → List Turn
command_turns core (command.Begin thread op server) = Begin thread op server ∷ []
command_turns core (command.Step thread steps) = replicate steps (Step thread)
command_turns core (command.Run thread) =
    replicate (steps_to_answer max_steps core thread) (Step thread)

abbrev pub after_command : Played → Command → Played
after_command p command = after_all_turns p (command_turns p.core command)

abbrev pub after_commands : Played → List Command → Played
after_commands p [] = p
after_commands p (command ∷ commands) = after_commands (after_command p command) commands

-- each thread below this number takes one step, in the order of their places
abbrev pub enrolments : ℕ → List Turn
enrolments zero = []
enrolments (suc thread) = enrolments thread ++ Step thread ∷ []

abbrev pub opened_play : Settings → Played
opened_play s = record { core = opened_core s; events = []; skips = [] }

abbrev pub enrolled : Settings → Played
enrolled s = after_all_turns (opened_play s) (enrolments s.threads)

abbrev pub played : Plan → Played
played plan = after_commands (enrolled plan.settings) plan.commands

-- after each of its run lines the thread has no call: the most steps of a run line are enough
abbrev pub RunsToAnswers : Plan → Type 0
RunsToAnswers plan =
    (before others : List Command) (thread : ℕ) →
    plan.commands ≡ before ++ command.Run thread ∷ others →
    let run = after_commands (enrolled plan.settings) (before ++ command.Run thread ∷ []) in
    has_call (thread_at run.core thread) ≡ false

-- the run of what was played
abbrev pub run_data_of : Version → Settings → Played → RunData
run_data_of version s p =
    record { version = version; settings = s; events = p.events; skips = p.skips }

-- the run that a schedule names
unfoldable pub named_by : Plan → RunData
named_by plan = run_data_of plan.version plan.settings (played plan)
