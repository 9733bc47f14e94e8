-- What is played is a run: its core is that of the run, and its events are those of the run's past.
use Rattle.std.proofs.Common.{◌≡◌, ℕ, ◌+◌, ◌<◌, List, [], ◌∷◌, ◌++◌, length, All, Option, Some, None, refl, sym, ap, ◌∙◌, subst, arith, ◌-◌, get_or, reverse, ◌≤◌, add-one, take, take_all}
use Rattle.std.proofs.Math.Seq.{take-suc}
use Rattle.std.proofs.lemmas.List.{get_or-reverse, length-reverse}
use Rattle.tko_model.specs.declared.mark.Op.{Op}
use Rattle.tko_model.specs.Settings.{Settings}
use Rattle.tko_runs.specs.declared.schedule.command.Command.{Command}
use Rattle.tko_runs.specs.declared.run.event.Event.{Event}
use Rattle.tko_runs.specs.declared.version.Version.{Version}
use Rattle.tko_model.specs.Ranges.{IsWithinRanges}
use Rattle.tko_runs.specs.States.{AllCome, Claimed, IsRunData, calls_in, claimed, opened_state}
use Rattle.tko_runs.specs.Orders.{AllFollow, IsLegalRun}
use Rattle.tko_runs.specs.Plays.{Played, after_all_turns, after_command, after_commands, after_turn, command_turns, enrolled, enrolments, named_by, opened_play, played, played_begin, run_data_of, with_event, with_skip}
use Rattle.tko_runs.specs.Plays as plays
use Rattle.tko_runs.specs.Schedules.{Plan}
use Rattle.tko_runs.specs.Runs.{event_of, events_of}
use Rattle.tko_runs.proofs.LinkLemmas.{Linked-run, events_of-none, events_of-push}
use Rattle.tko_steps.specs.declared.step.BeginFault.{BeginFault}
use Rattle.tko_steps.specs.declared.step.Stepped.{Stepped}
use Rattle.tko_steps.specs.declared.step.Stepped.TheVariants as stepped
use Rattle.tko_steps.specs.Core.{CoreState, abstract_of, after_begin, after_step, begin_fault, reported_by_step, unless_fault}
use Rattle.tko_steps.specs.Legal.{IsLegal}
use Rattle.tko_steps.specs.Runs.{Begin, Step, Turn, RunCall, Moment, World, began, calls_of, happens, run, with_reported}
use Rattle.tko_steps.proofs.WiringLemmas.{run-push}

-- what was played are turns of a run
pub record IsRun (s : Settings) (p : Played) : Type 0 where
  pub turns : List Turn
  pub core : p.core ≡ (run s turns).core
  pub events : p.events ≡ events_of (run s turns).past

events-moment : (p : Played) (past : List Moment) (moment : Moment) → p.events ≡ events_of past
    → p.events ++ event_of moment ∷ [] ≡ events_of (moment ∷ past)
events-moment p past moment same =
    ap (λ events. events ++ event_of moment ∷ []) same ∙ sym (events_of-push moment past)

events-begin : (p : Played) (core : CoreState) (past : List Moment) (thread : ℕ) (op : Op) (server : ℕ) (found : Option BeginFault)
    → p.events ≡ events_of past
    → (played_begin p thread op server found).events ≡ events_of (unless_fault found (began core thread op server ∷ past) past)
events-begin p core past thread op server None same = events-moment p past (began core thread op server) same
events-begin p core past thread op server (Some fault) same = same

events-step : (p : Played) (before new : CoreState) (past : List Moment) (thread : ℕ) (told : Stepped) → p.events ≡ events_of past
    → (plays.played_step p thread told).events ≡ events_of (with_reported past thread (abstract_of before) (abstract_of new) told)
events-step p before new past thread stepped.NoThread same = same
events-step p before new past thread stepped.Idle same = same
events-step p before new past thread (stepped.Did kind place found left won answer) same = events-moment p past _ same

core-turn : (p : Played) (w : World) (turn : Turn) → p.core ≡ w.core → (after_turn p turn).core ≡ (happens w turn).core
core-turn p w (Begin thread op server) core = ap (λ c. after_begin c thread op server) core
core-turn p w (Step thread) core = ap (λ c. after_step c thread) core

events-turn : (p : Played) (w : World) (turn : Turn) → p.core ≡ w.core → p.events ≡ events_of w.past
    → (after_turn p turn).events ≡ events_of (happens w turn).past
events-turn p w (Begin thread op server) core events =
    ap (λ (c : CoreState). (played_begin p thread op server (begin_fault c thread server)).events) core
    ∙ events-begin p w.core w.past thread op server (begin_fault w.core thread server) events
events-turn p w (Step thread) core events =
    ap (λ (c : CoreState). (plays.played_step p thread (reported_by_step c thread)).events) core
    ∙ events-step p w.core (after_step w.core thread) w.past thread (reported_by_step w.core thread) events

IsRun-turn : (s : Settings) (p : Played) (turn : Turn) → IsRun s p → IsRun s (after_turn p turn)
IsRun-turn s p turn is =
    let w : World = run s is.turns in
    let more = run-push s is.turns turn in
    record {
      turns = is.turns ++ turn ∷ [];
      core = core-turn p w turn is.core ∙ sym (ap (λ (v : World). v.core) more);
      events = events-turn p w turn is.core is.events ∙ sym (ap (λ (v : World). events_of v.past) more);
    }

IsRun-all : (s : Settings) (p : Played) (turns : List Turn) → IsRun s p → IsRun s (after_all_turns p turns)
IsRun-all s p [] is = is
IsRun-all s p (turn ∷ turns) is = IsRun-all s (after_turn p turn) turns (IsRun-turn s p turn is)

IsRun-commands : (s : Settings) (p : Played) (commands : List Command) → IsRun s p → IsRun s (after_commands p commands)
IsRun-commands s p [] is = is
IsRun-commands s p (command ∷ commands) is =
    IsRun-commands s (after_command p command) commands (IsRun-all s p (command_turns p.core command) is)

IsRun-opened : (s : Settings) → IsRun s (opened_play s)
IsRun-opened s = record { turns = []; core = refl; events = sym events_of-none }

pub IsRun-played : (s : Settings) (commands : List Command) → IsRun s (after_commands (enrolled s) commands)
IsRun-played s commands =
    IsRun-commands s (enrolled s) commands (IsRun-all s (opened_play s) (enrolments s.threads) (IsRun-opened s))

-- What is played is a legal run.

pub IsRunData-run : (version : Version) (s : Settings) (p : Played) → IsWithinRanges s → IsRun s p
    → IsRunData (run_data_of version s p)
IsRunData-run version s p ranges is =
    let P : List Event → Type 0 = λ events. AllCome (opened_state s) events in
    record { settings = ranges; events = subst P (sym is.events) (Linked-run s ranges is.turns).come }

All-reverse : {X : Type 0} (P : X → Type 0) (xs : List X) → All P xs → All P (reverse xs)
All-reverse P xs all k d inside =
    let low : k < length xs = omega (arith, inside, length-reverse xs) in
    subst P (sym (get_or-reverse xs k d low)) (all (length xs - 1 - k) d (omega arith))

calls_in-run : (s : Settings) → IsWithinRanges s → (turns : List Turn)
    → calls_in s (events_of (run s turns).past) ≡ reverse (calls_of (run s turns).past)
unfolding calls_in claimed
calls_in-run s ranges turns = ap (λ (it : Claimed). reverse (calls_of it.past)) (Linked-run s ranges turns).same

pub IsLegalRun-run : (version : Version) (s : Settings) (p : Played) → IsWithinRanges s
    → ((turns : List Turn) → All (IsLegal s) (calls_of (run s turns).past)) → IsRun s p
    → IsLegalRun (run_data_of version s p)
IsLegalRun-run version s p ranges legal is =
    let P : List Event → Type 0 = λ events. AllFollow s (opened_state s) events in
    let Q : List RunCall → Type 0 = λ calls. All (IsLegal s) calls in
    let same : calls_in s p.events ≡ reverse (calls_of (run s is.turns).past) =
    ap (calls_in s) is.events ∙ calls_in-run s ranges is.turns in
    record {
      follow = subst P (sym is.events) (Linked-run s ranges is.turns).follow;
      legal = subst Q (sym same) (All-reverse (IsLegal s) (calls_of (run s is.turns).past) (legal is.turns));
    }

-- All commands of a schedule.

pub after_commands-push : (p : Played) (commands : List Command) (command : Command)
    → after_commands p (commands ++ command ∷ []) ≡ after_command (after_commands p commands) command
after_commands-push p [] command = refl
after_commands-push p (first ∷ commands) command = after_commands-push (after_command p first) commands command

pub followed-more : (opened p new : Played) (commands items : List Command) (k : ℕ) (none : Command) → items ≡ commands
    → k < length items → p ≡ after_commands opened (take k commands) → new ≡ after_command p (get_or items k none)
    → new ≡ after_commands opened (take (k + 1) commands)
followed-more opened p new commands items k none same low is follows =
    let inside : k < length commands = omega (arith, low, ap length same) in
    let command : Command = get_or commands k none in
    follows
    ∙ ap (λ xs. after_command p (get_or xs k none)) same
    ∙ ap (λ q. after_command q command) is
    ∙ sym (after_commands-push opened (take k commands) command)
    ∙ ap (after_commands opened) (sym (take-suc commands k none inside))
    ∙ ap (λ n. after_commands opened (take n commands)) (sym (add-one k))

pub followed-all : (plan : Plan) (items : List Command) (p : Played) (k : ℕ) → items ≡ plan.commands → length items ≤ k
    → p ≡ after_commands (enrolled plan.settings) (take k plan.commands) → p ≡ played plan
followed-all plan items p k same high is =
    is ∙ ap (after_commands (enrolled plan.settings)) (take_all k plan.commands (omega (arith, high, ap length same)))

-- the run that the plan names
pub run_data_of-played : (plan : Plan) (version : Version) (settings : Settings) (p : Played) → version ≡ plan.version
    → settings ≡ plan.settings → p ≡ played plan → run_data_of version settings p ≡ named_by plan
unfolding named_by
run_data_of-played plan version settings p form same is =
    ap (λ v. run_data_of v settings p) form
    ∙ ap (λ s. run_data_of plan.version s p) same
    ∙ ap (run_data_of plan.version plan.settings) is

pub IsRunData-named_by : (plan : Plan) → IsWithinRanges plan.settings → IsRunData (named_by plan)
unfolding named_by
IsRunData-named_by plan ranges =
    IsRunData-run plan.version plan.settings (played plan) ranges (IsRun-played plan.settings plan.commands)

pub turns-named_by : (plan : Plan)
    → (turns : List Turn) × ((named_by plan).events ≡ events_of (run (named_by plan).settings turns).past)
unfolding named_by
turns-named_by plan = let is = IsRun-played plan.settings plan.commands in (is.turns, is.events)

pub IsLegalRun-named_by : (plan : Plan) → IsWithinRanges plan.settings
    → ((turns : List Turn) → All (IsLegal plan.settings) (calls_of (run plan.settings turns).past)) → IsLegalRun (named_by plan)
unfolding named_by
IsLegalRun-named_by plan ranges legal =
    IsLegalRun-run plan.version plan.settings (played plan) ranges legal (IsRun-played plan.settings plan.commands)
