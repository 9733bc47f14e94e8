-- The core: the words that the threads share and the state of each thread; and the core after a
-- begin and after a step.
use Rattle.std.specs.Prelude.{◌≡◌, ℕ, ◌+◌, Bool, true, false, nat_lt, if◌then◌else◌, List, length, slice_index_or, slice_set, replicate, Option, Some, None}
use Rattle.tko_model.specs.declared.mark.Op.{Op}
use Rattle.tko_model.specs.Settings.{Settings}
use Rattle.tko_model.specs.declared.state.ServerState.{ServerState}
use Rattle.tko_model.specs.Groups.{group_of, groups}
use Rattle.tko_model.specs.Tracker.{opened, server_at}
use Rattle.tko_word.specs.Words.{firm_in, held_in}
use Rattle.tko_steps.specs.declared.step.BeginFault.{BeginFault}
use Rattle.tko_steps.specs.declared.step.BeginFault.TheVariants as fault
use Rattle.tko_steps.specs.declared.table.Action.{Action}
use Rattle.tko_steps.specs.declared.table.Decision.{Decision}
use Rattle.tko_steps.specs.declared.table.Observed.{Observed}
use Rattle.tko_steps.specs.declared.phase.Call.{Call}
use Rattle.tko_steps.specs.declared.phase.Phase.{Phase}
use Rattle.tko_steps.specs.declared.phase.Slots.{Slots}
use Rattle.tko_steps.specs.declared.phase.ThreadState.{ThreadState}
use Rattle.tko_steps.specs.declared.phase.ThreadState.TheVariants.{NotEnrolled, Idle, InCall}
use Rattle.tko_steps.specs.declared.step.StepKind.{StepKind}
use Rattle.tko_steps.specs.declared.step.StepKind.TheVariants as kind
use Rattle.tko_steps.specs.declared.step.Place.{Place}
use Rattle.tko_steps.specs.declared.step.Place.TheVariants as place
use Rattle.tko_steps.specs.declared.step.Stepped.{Stepped}
use Rattle.tko_steps.specs.declared.step.Stepped.TheVariants as stepped
use Rattle.tko_steps.specs.declared.step.Word.{Word}
use Rattle.tko_steps.specs.declared.step.Word.TheVariants as word
use Rattle.tko_steps.specs.Steps.{decided_by, in_call, place_of, seen_in, server_written, slots_written, decided_state, reported_by, word_after, writes}
use Rattle.tko_steps.specs.Table.{action_of}

-- what the words hold: each server's mark and stamp, the counts of each group's soft word, and how
-- many threads are enrolled
pub record Shared : Type 0 where
  pub servers : List ServerState
  pub slots : List Slots
  pub enrolled : ℕ

pub record CoreState : Type 0 where
  pub settings : Settings
  pub shared : Shared
  -- by their places
  pub threads : List ThreadState

-- the abstract state: the marks and stamps, and nothing else
abbrev pub abstract_of : CoreState → List ServerState
abstract_of core = core.shared.servers

-- whether a step of this kind is one of a call
abbrev pub is_call_step : StepKind → Bool
is_call_step kind.Enrol = false
is_call_step _ = true

-- the settings that it was opened with
abbrev pub settings_of : CoreState → Settings
settings_of core = core.settings

-- the state of the thread of this place
abbrev pub thread_at : CoreState → ℕ → ThreadState
thread_at core thread = slice_index_or core.threads thread NotEnrolled

-- the number that a thread drew
abbrev pub drawn_number : ThreadState → Option ℕ
drawn_number NotEnrolled = None
drawn_number (Idle number) = Some number
drawn_number (InCall call phase) = Some call.number

-- a soft word with no slot taken
abbrev pub no_slots : Slots
no_slots = record { firm = 0; held = 0 }

-- the counts that a soft word holds
abbrev pub slots_in : ℕ → Slots
slots_in word = record { firm = firm_in word; held = held_in word }

-- the counts of the soft word of a group
abbrev pub slots_at : List Slots → ℕ → Slots
slots_at slots group = slice_index_or slots group no_slots

-- opened words: each server up, no slot taken, no thread enrolled
abbrev pub opened_words : Settings → Shared
opened_words s =
    record { servers = (opened s).servers; slots = replicate (groups s) no_slots; enrolled = 0 }

abbrev pub opened_core : Settings → CoreState
opened_core s =
    record { settings = s; shared = opened_words s; threads = replicate s.threads NotEnrolled }

-- the core with this state of the thread of this place
abbrev pub with_thread : CoreState → ℕ → ThreadState → CoreState
with_thread core thread state = record core { threads = slice_set core.threads thread state }

-- why a call can't begin, from the state of its thread and whether the server exists
abbrev pub fault_at : ThreadState → Bool → Option BeginFault
fault_at NotEnrolled is_server = Some fault.NoThread
fault_at (InCall call phase) is_server = Some fault.Busy
fault_at (Idle number) is_server = if is_server then None else Some fault.NoServer

abbrev pub begin_fault : CoreState → ℕ → ℕ → Option BeginFault
begin_fault core thread server =
    if nat_lt thread (length core.threads)
    then fault_at (thread_at core thread) (nat_lt server (length (abstract_of core)))
    else Some fault.NoThread

-- the new state, or at a fault the old one
abbrev pub unless_fault : {A : Type 0} → Option BeginFault → A → A → A
unless_fault None new old = new
unless_fault (Some fault) new old = old

-- the core after a begin; one that is refused changes nothing
abbrev pub after_begin : CoreState → ℕ → Op → ℕ → CoreState
after_begin core thread op server =
    unless_fault
    (begin_fault core thread server)
    (with_thread core thread (in_call (thread_at core thread) op server))
    core

-- what the word of this place holds
abbrev pub word_at : Shared → Place → Word
word_at shared (place.Server server) = word.Server (server_at shared.servers server)
word_at shared (place.Soft group) = word.Soft (slots_at shared.slots group)
word_at shared place.Enrolment = word.Enrolled shared.enrolled

-- the words with this one in that place
abbrev pub with_word : Shared → Place → Word → Shared
with_word shared (place.Server server) (word.Server now) =
    record shared { servers = slice_set shared.servers server now }
with_word shared (place.Soft group) (word.Soft now) =
    record shared { slots = slice_set shared.slots group now }
with_word shared place.Enrolment (word.Enrolled count) = record shared { enrolled = count }
with_word shared at other = shared

-- the servers after a step on this one, which changes where the step writes its word
abbrev pub servers_after : List ServerState → ℕ → Action → List ServerState
servers_after servers server action =
    let now = server_at servers server in
    if writes action (word.Server now)
    then slice_set servers server (server_written action now)
    else servers

-- the words with these counts in the soft word of a group
abbrev pub with_slots : Shared → ℕ → Slots → Shared
with_slots shared group now = record shared { slots = slice_set shared.slots group now }

-- the soft words after a step of a call on a server of this group
abbrev pub soft_words_after : List Slots → ℕ → Action → List Slots
soft_words_after slots group action =
    let now = slots_at slots group in
    if writes action (word.Soft now)
    then slice_set slots group (slots_written action now)
    else slots

-- the words after a step: the one that it is on is what the step leaves there (`IsOnOneWord`), and
-- the others are as they were
abbrev pub shared_after : Settings → Shared → ℕ → Action → Shared
shared_after s shared server action =
    record {
      servers = servers_after shared.servers server action;
      slots = soft_words_after shared.slots (group_of s server) action;
      enrolled = shared.enrolled;
    }

-- what a step reads
abbrev pub seen_by : Settings → Shared → ℕ → Action → Observed
seen_by s shared server action = seen_in action (word_at shared (place_of s server action))

-- a step changes the word that it is on alone, to what that word alone decides
abbrev pub IsOnOneWord : Settings → Shared → ℕ → Action → Type 0
IsOnOneWord s shared server action =
    let at = place_of s server action in
    shared_after s shared server action
    ≡ with_word shared at (word_after action (word_at shared at))

-- the words after a step on the soft word of this group
abbrev pub with_soft_words : Shared → ℕ → Action → Shared
with_soft_words shared group action =
    record shared { slots = soft_words_after shared.slots group action }

-- the word that the step of a call at this phase finds
abbrev pub found_by : CoreState → Call → Phase → Word
found_by core call phase =
    word_at core.shared (place_of core.settings call.server (action_of call.number phase))

-- what follows that step
abbrev pub follows : CoreState → Call → Phase → Decision
follows core call phase = decided_by core.settings call phase (found_by core call phase)

-- a step of the call of the thread at this place
abbrev pub after_act : CoreState → ℕ → Call → Phase → CoreState
after_act core thread call phase =
    record {
      settings = core.settings;
      shared = shared_after core.settings core.shared call.server (action_of call.number phase);
      threads = slice_set core.threads thread (decided_state call (follows core call phase));
    }

-- what that step reports
abbrev pub reported_by_act : CoreState → Call → Phase → Stepped
reported_by_act core call phase = reported_by core.settings call phase (found_by core call phase)

-- an enrolment: the thread draws how many were enrolled before it
abbrev pub after_enrol : CoreState → ℕ → CoreState
after_enrol core thread =
    record {
      settings = core.settings;
      shared = record core.shared { enrolled = core.shared.enrolled + 1 };
      threads = slice_set core.threads thread (Idle core.shared.enrolled);
    }

abbrev pub reported_by_enrol : CoreState → Stepped
reported_by_enrol core =
    stepped.Did
    kind.Enrol
    place.Enrolment
    (word.Enrolled core.shared.enrolled)
    (word.Enrolled (core.shared.enrolled + 1))
    true
    None

-- the core after a step of the thread at this place, which has this state
abbrev pub after_step_from : CoreState → ℕ → ThreadState → CoreState
after_step_from core thread NotEnrolled = after_enrol core thread
after_step_from core thread (Idle number) = core
after_step_from core thread (InCall call phase) = after_act core thread call phase

-- what that step reports
abbrev pub reported_from : CoreState → ThreadState → Stepped
reported_from core NotEnrolled = reported_by_enrol core
reported_from core (Idle number) = stepped.Idle
reported_from core (InCall call phase) = reported_by_act core call phase

abbrev pub after_step : CoreState → ℕ → CoreState
after_step core thread =
    if nat_lt thread (length core.threads)
    then after_step_from core thread (thread_at core thread)
    else core

abbrev pub reported_by_step : CoreState → ℕ → Stepped
reported_by_step core thread =
    if nat_lt thread (length core.threads)
    then reported_from core (thread_at core thread)
    else stepped.NoThread
