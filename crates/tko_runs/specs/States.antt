-- What the events of a run claim: the words and the state of each thread after them, and which
-- event can come next.
use Rattle.std.specs.Prelude.{◌≡◌, ℕ, ◌+◌, ◌<◌, Bool, true, false, if◌then◌else◌, List, [], ◌∷◌, ◌++◌, length, slice_index_or, slice_set, reverse, replicate, Option, Some, None}
use Rattle.tko_model.specs.declared.mark.Reply.{Reply}
use Rattle.tko_model.specs.Settings.{Settings}
use Rattle.tko_model.specs.declared.state.ServerState.{ServerState}
use Rattle.tko_model.specs.Ranges.{IsWithinRanges, first_fault}
use Rattle.tko_runs.specs.declared.run.claim.ClaimFault.{ClaimFault}
use Rattle.tko_runs.specs.declared.run.claim.ClaimFault.TheVariants as fault
use Rattle.tko_runs.specs.declared.run.event.Event.{Event}
use Rattle.tko_runs.specs.declared.run.event.Event.TheVariants.{Begin, Step}
use Rattle.tko_runs.specs.declared.run.state.ThreadEntry.{ThreadEntry}
use Rattle.tko_runs.specs.declared.run.state.ThreadEntry.TheVariants.{NotEnrolled, Idle, InCall}
use Rattle.tko_runs.specs.Runs.{RunData}
use Rattle.tko_steps.specs.declared.phase.Slots.{Slots}
use Rattle.tko_steps.specs.declared.step.StepKind.{StepKind}
use Rattle.tko_steps.specs.declared.step.StepKind.TheVariants as kind
use Rattle.tko_steps.specs.declared.step.Place.{Place}
use Rattle.tko_steps.specs.declared.step.Place.TheVariants as place
use Rattle.tko_steps.specs.declared.step.Word.{Word}
use Rattle.tko_steps.specs.declared.step.Word.TheVariants as word
use Rattle.tko_steps.specs.Core.{Shared, is_call_step, opened_words}
use Rattle.tko_steps.specs.Lost.{same_word}
use Rattle.tko_steps.specs.Runs.{RunCall, Began, Moment, Took, calls_of}

-- The state after events.

-- what the words hold, and the state of each thread
pub record RunState : Type 0 where
  pub words : Shared
  pub threads : List ThreadEntry

-- each server up, no slot taken, and no thread enrolled
abbrev pub opened_state : Settings → RunState
opened_state s = record { words = opened_words s; threads = replicate s.threads NotEnrolled }

abbrev pub entry_at : RunState → ℕ → ThreadEntry
entry_at state thread = slice_index_or state.threads thread NotEnrolled

-- the number that a thread drew; one that isn't enrolled has none
abbrev pub entry_number : ThreadEntry → ℕ
entry_number NotEnrolled = 0
entry_number (Idle number) = number
entry_number (InCall number server) = number

-- an idle thread begins a call on a server
abbrev pub entry_in_call : ThreadEntry → ℕ → ThreadEntry
entry_in_call NotEnrolled server = NotEnrolled
entry_in_call (Idle number) server = InCall number server
entry_in_call (InCall number on) server = InCall number on

abbrev pub with_begin : RunState → ℕ → ℕ → RunState
with_begin state thread server =
    record state {
      threads = slice_set state.threads thread (entry_in_call (entry_at state thread) server);
    }

-- a thread draws the number of those enrolled before it
abbrev pub with_enrolment : RunState → ℕ → RunState
with_enrolment state thread =
    record {
      words = record state.words { enrolled = state.words.enrolled + 1 };
      threads = slice_set state.threads thread (Idle state.words.enrolled);
    }

-- the servers once a step of a call left this word at that place
abbrev pub servers_written : List ServerState → Place → Word → List ServerState
servers_written servers (place.Server server) (word.Server left) = slice_set servers server left
servers_written servers at left = servers

abbrev pub written_slots : List Slots → Place → Word → List Slots
written_slots slots (place.Soft group) (word.Soft left) = slice_set slots group left
written_slots slots at left = slots

abbrev pub state_with_word : RunState → Place → Word → RunState
state_with_word state at left =
    record state {
      words = record {
        servers = servers_written state.words.servers at left;
        slots = written_slots state.words.slots at left;
        enrolled = state.words.enrolled;
      };
    }

-- an answer ends the call of a thread
abbrev pub answered : Option Reply → ThreadEntry → ThreadEntry
answered None entry = entry
answered (Some reply) NotEnrolled = NotEnrolled
answered (Some reply) (Idle number) = Idle number
answered (Some reply) (InCall number server) = Idle number

abbrev pub with_answer : RunState → ℕ → Option Reply → RunState
with_answer state thread answer =
    record state {
      threads = slice_set state.threads thread (answered answer (entry_at state thread));
    }

-- after a step, by whether it is one of a call
abbrev pub state_with_step : Bool → RunState → ℕ → Place → Word → Option Reply → RunState
state_with_step true state thread at left answer =
    with_answer (state_with_word state at left) thread answer
state_with_step false state thread at left answer = with_enrolment state thread

abbrev pub state_after : RunState → Event → RunState
state_after state (Begin thread op server) = with_begin state thread server
state_after state (Step thread kind at found left answer) =
    state_with_step (is_call_step kind) state thread at left answer

abbrev pub state_after_all : RunState → List Event → RunState
state_after_all state [] = state
state_after_all state (event ∷ events) = state_after_all (state_after state event) events

-- Which event can come.

abbrev pub IsThreadIdle : ThreadEntry → Type 0
IsThreadIdle NotEnrolled = ⊥
IsThreadIdle (Idle number) = Unit {0}
IsThreadIdle (InCall number server) = ⊥

abbrev pub HasCall : ThreadEntry → Type 0
HasCall NotEnrolled = ⊥
HasCall (Idle number) = ⊥
HasCall (InCall number server) = Unit {0}

-- the server of this place is there, if it is a server's
abbrev pub HasServer : List ServerState → Place → Type 0
HasServer servers (place.Server server) = server < length servers
HasServer servers at = Unit {0}

-- the group of this place is there, if it is a group's
abbrev pub HasGroup : List Slots → Place → Type 0
HasGroup slots (place.Soft group) = group < length slots
HasGroup slots at = Unit {0}

-- there is such a place
abbrev pub HasPlace : Shared → Place → Type 0
HasPlace words at = HasServer words.servers at × HasGroup words.slots at

-- an enrolment finds how many threads are enrolled, leaves one more, and has no answer
pub record IsEnrolment
    (before : ℕ) (at : Place) (found left : Word) (answer : Option Reply) : Type 0 where
  pub at_enrolment : at ≡ place.Enrolment
  pub finds : found ≡ word.Enrolled before
  pub leaves : left ≡ word.Enrolled (before + 1)
  pub silent : answer ≡ None

-- a step can come, by whether it is one of a call: its thread has a call and there is its place, or
-- it is the enrolment of a thread that isn't enrolled
abbrev pub CanStep : Bool → RunState → ℕ → Place → Word → Word → Option Reply → Type 0
CanStep true state thread at found left answer =
    ((thread < length state.threads) × HasCall (entry_at state thread))
    × HasPlace state.words at
CanStep false state thread at found left answer =
    ((thread < length state.threads) × (entry_at state thread ≡ NotEnrolled))
    × IsEnrolment state.words.enrolled at found left answer

-- the event can come next: a call is begun by an idle thread, on a server that is there
abbrev pub CanCome : RunState → Event → Type 0
CanCome state (Begin thread op server) =
    ((thread < length state.threads) × IsThreadIdle (entry_at state thread))
    × (server < length state.words.servers)
CanCome state (Step thread kind at found left answer) =
    CanStep (is_call_step kind) state thread at found left answer

-- the events can come one after another
abbrev pub AllCome : RunState → List Event → Type 0
AllCome state [] = Unit {0}
AllCome state (event ∷ events) = CanCome state event × AllCome (state_after state event) events

-- the first event that can't come is that one, counted from 1
pub record IsFirstBad (s : Settings) (events : List Event) (number : ℕ) : Type 0 where
  pub before : List Event
  pub bad : Event
  pub after : List Event
  pub split : events ≡ before ++ bad ∷ after
  pub place : number ≡ length before + 1
  pub others : AllCome (opened_state s) before
  pub cannot : CanCome (state_after_all (opened_state s) before) bad → ⊥

-- why a claim is no run: settings are judged first; any call may instead fail with `Memory`
abbrev pub IsClaimFault : Settings → List Event → ClaimFault → Type 0
IsClaimFault s events (fault.Settings outside) = first_fault s ≡ Some outside
IsClaimFault s events (fault.Event number) = IsWithinRanges s × IsFirstBad s events number
IsClaimFault s events fault.Memory = Unit {0}

-- what holds of each run: its settings are in their ranges, and its events can come one after
-- another
pub record IsRunData (run : RunData) : Type 0 where
  pub settings : IsWithinRanges run.settings
  pub events : AllCome (opened_state run.settings) run.events

-- What happened.

-- whether a step of this kind wrote: an exchange that is lost leaves the word that it found
abbrev pub wrote : StepKind → Word → Word → Bool
wrote kind.Count found left = if same_word left found then false else true
wrote kind.Mark found left = if same_word left found then false else true
wrote kind.Own found left = if same_word left found then false else true
wrote kind.Reserve found left = if same_word left found then false else true
wrote other found left = true

-- what happened, by that event
abbrev pub moment_of : RunState → Event → Moment
moment_of state (Begin thread op server) =
    Began thread (entry_number (entry_at state thread)) op server
moment_of state (Step thread kind at found left answer) =
    Took
    (record {
      thread = thread;
      kind = kind;
      place = at;
      found = found;
      left = left;
      won = wrote kind found left;
      answer = answer;
      before = state.words.servers;
      after = (state_after state (Step thread kind at found left answer)).words.servers;
    })

-- the state, and what happened so far, the newest first
pub record Claimed : Type 0 where
  pub state : RunState
  pub past : List Moment

abbrev pub claimed_after : Claimed → Event → Claimed
claimed_after claim event =
    record {
      state = state_after claim.state event;
      past = moment_of claim.state event ∷ claim.past;
    }

abbrev pub claimed_after_all : Claimed → List Event → Claimed
claimed_after_all claim [] = claim
claimed_after_all claim (event ∷ events) = claimed_after_all (claimed_after claim event) events

abbrev pub opened_claim : Settings → Claimed
opened_claim s = record { state = opened_state s; past = [] }

-- the state and the past after the events of a claimed run
unfoldable pub claimed : Settings → List Event → Claimed
claimed s events = claimed_after_all (opened_claim s) events

-- the calls of a claimed run, in the order of their begins
unfoldable pub calls_in : Settings → List Event → List RunCall
calls_in s events = reverse (calls_of (claimed s events).past)
