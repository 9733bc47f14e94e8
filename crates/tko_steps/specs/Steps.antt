-- Steps over one word: what a step of a call reads in the one word that it is on, whether it writes
-- there, what it leaves there, what follows for its thread, and what it reports. The functions of
-- the whole core are made of these.
use Rattle.std.specs.Prelude.{ℕ, ◌+◌, ◌-◌, ◌==◌, Bool, true, false, if◌then◌else◌, Option, Some, None}
use Rattle.tko_model.specs.declared.mark.Mark.{Mark}
use Rattle.tko_model.specs.declared.mark.Mark.TheVariants as mark
use Rattle.tko_model.specs.declared.mark.Op.{Op}
use Rattle.tko_model.specs.declared.mark.Reply.{Reply}
use Rattle.tko_model.specs.Settings.{Settings}
use Rattle.tko_model.specs.declared.state.ServerState.{ServerState}
use Rattle.tko_model.specs.Groups.{group_of}
use Rattle.tko_steps.specs.declared.table.Action.{Action}
use Rattle.tko_steps.specs.declared.table.Action.TheVariants.{LookAtServer, LookAtSlots, Exchange, Reserve, Settle, Loosen, Give}
use Rattle.tko_steps.specs.declared.table.Decision.{Decision}
use Rattle.tko_steps.specs.declared.table.Decision.TheVariants.{Goes, Answers}
use Rattle.tko_steps.specs.declared.table.Observed.{Observed}
use Rattle.tko_steps.specs.declared.table.Observed.TheVariants as seen
use Rattle.tko_steps.specs.declared.phase.Call.{Call}
use Rattle.tko_steps.specs.declared.phase.Phase.{Phase}
use Rattle.tko_steps.specs.declared.phase.Phase.TheVariants.{Start}
use Rattle.tko_steps.specs.declared.phase.Slots.{Slots}
use Rattle.tko_steps.specs.declared.phase.ThreadState.{ThreadState}
use Rattle.tko_steps.specs.declared.phase.ThreadState.TheVariants.{NotEnrolled, Idle, InCall}
use Rattle.tko_steps.specs.declared.step.StepKind.{StepKind}
use Rattle.tko_steps.specs.declared.step.StepKind.TheVariants as kind
use Rattle.tko_steps.specs.declared.step.Place.{Place}
use Rattle.tko_steps.specs.declared.step.Place.TheVariants as place
use Rattle.tko_steps.specs.declared.step.Stepped.{Stepped}
use Rattle.tko_steps.specs.declared.step.Stepped.TheVariants as stepped
use Rattle.tko_steps.specs.declared.step.Word.{Word}
use Rattle.tko_steps.specs.declared.step.Word.TheVariants as word
use Rattle.tko_steps.specs.Table.{action_of, next_of, same_server, same_slots}

-- the kind of an exchange of a health word
abbrev pub kind_of_exchange : Mark → Mark → StepKind
kind_of_exchange (mark.Up count) (mark.Up other) = kind.Count
kind_of_exchange (mark.Up count) new = kind.Mark
kind_of_exchange old new = kind.Own

abbrev pub step_kind : Action → StepKind
step_kind LookAtServer = kind.Look
step_kind LookAtSlots = kind.Look
step_kind (Exchange found new) = kind_of_exchange found.mark new
step_kind (Reserve slots) = kind.Reserve
step_kind Settle = kind.Shift
step_kind Loosen = kind.Shift
step_kind Give = kind.Give

-- the word that a step of a call on this server is on: the server's, or the soft word of its group
abbrev pub place_of : Settings → ℕ → Action → Place
place_of s server LookAtServer = place.Server server
place_of s server (Exchange found mark) = place.Server server
place_of s server action = place.Soft (group_of s server)

-- The word of a step.

-- whether a step writes the word that it finds: a look does not, and an exchange does where it
-- finds the word that it expects
abbrev pub writes : Action → Word → Bool
writes (Exchange found mark) (word.Server now) = same_server now found
writes (Reserve slots) (word.Soft now) = same_slots now slots
writes Settle (word.Soft now) = true
writes Loosen (word.Soft now) = true
writes Give (word.Soft now) = true
writes action found = false

-- the server's mark and stamp once a step wrote them
abbrev pub server_written : Action → ServerState → ServerState
server_written (Exchange found mark) now = record { mark = mark; stamp = found.stamp + 1 }
server_written action now = now

-- the counts of the soft word once a step wrote them
abbrev pub slots_written : Action → Slots → Slots
slots_written (Reserve slots) now = record { firm = now.firm; held = now.held + 1 }
slots_written Settle now = record { firm = now.firm + 1; held = now.held - 1 }
slots_written Loosen now = record { firm = now.firm - 1; held = now.held + 1 }
slots_written Give now = record { firm = now.firm; held = now.held - 1 }
slots_written action now = now

-- what a step leaves of the server that it finds
abbrev pub server_after : Action → ServerState → ServerState
server_after action now =
    if writes action (word.Server now) then server_written action now else now

-- what a step leaves of the counts that it finds
abbrev pub slots_after : Action → Slots → Slots
slots_after action now = if writes action (word.Soft now) then slots_written action now else now

-- what a step leaves of the word that it finds
abbrev pub word_after : Action → Word → Word
word_after action (word.Server now) = word.Server (server_after action now)
word_after action (word.Soft now) = word.Soft (slots_after action now)
word_after action (word.Enrolled count) = word.Enrolled count

-- what a step reads in the word that it finds: a look reads the word, another step whether it wrote
abbrev pub seen_in : Action → Word → Observed
seen_in LookAtServer (word.Server now) = seen.Server now
seen_in LookAtSlots (word.Soft now) = seen.Slots now
seen_in action found = seen.Done (writes action found)

-- whether a step that read this did what it meant to; a look always does
abbrev pub is_done : Observed → Bool
is_done (seen.Server found) = true
is_done (seen.Slots slots) = true
is_done (seen.Done won) = won

-- The thread of a step.

-- the state of the thread once its step was decided
abbrev pub decided_state : Call → Decision → ThreadState
decided_state call (Goes lost phase) = InCall (record call { lost = lost }) phase
decided_state call (Answers reply) = Idle call.number

abbrev pub decided_answer : Decision → Option Reply
decided_answer (Goes lost phase) = None
decided_answer (Answers reply) = Some reply

-- what follows the step of a call at this phase which finds this word
abbrev pub decided_by : Settings → Call → Phase → Word → Decision
decided_by s call phase found = next_of s call phase (seen_in (action_of call.number phase) found)

-- the state of its thread then
abbrev pub thread_after : Settings → Call → Phase → Word → ThreadState
thread_after s call phase found = decided_state call (decided_by s call phase found)

-- what that step reports
abbrev pub reported_by : Settings → Call → Phase → Word → Stepped
reported_by s call phase found =
    let act = action_of call.number phase in
    stepped.Did
    (step_kind act)
    (place_of s call.server act)
    found
    (word_after act found)
    (is_done (seen_in act found))
    (decided_answer (decided_by s call phase found))

-- a call that begins: no try is lost yet
abbrev pub begun_by : ℕ → Op → ℕ → Call
begun_by number op server = record { number = number; op = op; server = server; lost = 0 }

-- the state of an idle thread once its call began
abbrev pub in_call : ThreadState → Op → ℕ → ThreadState
in_call NotEnrolled op server = NotEnrolled
in_call (Idle number) op server = InCall (begun_by number op server) Start
in_call (InCall call phase) op server = InCall call phase

-- what follows for an idle thread of this number that begins a call and takes its first step, the
-- look that finds the server like this
abbrev pub first_look : Settings → ℕ → Op → ℕ → ServerState → Decision
first_look s number op server found =
    decided_by s (begun_by number op server) Start (word.Server found)

-- the state of the thread then
abbrev pub after_first_look : Settings → ThreadState → Op → ℕ → ServerState → ThreadState
after_first_look s NotEnrolled op server found = NotEnrolled
after_first_look s (Idle number) op server found =
    decided_state (begun_by number op server) (first_look s number op server found)
after_first_look s (InCall call phase) op server found = InCall call phase

-- The servers that a thread owns.

-- whether a word is that of a marked server
abbrev pub is_marked_state : Mark → Bool
is_marked_state (mark.Up count) = false
is_marked_state (mark.Soft owner) = true
is_marked_state (mark.Hard owner) = true

abbrev pub is_marked : Word → Bool
is_marked (word.Server server) = is_marked_state server.mark
is_marked word = false

abbrev pub is_server : ℕ → Place → Bool
is_server server (place.Server at) = at == server
is_server server place = false

-- whether a thread that did or didn't own a server owns it after a step of its own on that server's
-- word: a mark that it won adds it, and an own step takes it away unless it leaves a mark
abbrev pub owns_after : StepKind → Bool → Word → Bool → Bool
owns_after kind.Mark won left owned = if won then true else owned
owns_after kind.Own won left owned = if won then is_marked left else owned
owns_after kind won left owned = owned

-- what a thread that owned these servers owns after the step of its call at this phase which finds
-- this word
abbrev pub owned_after : Settings → Call → Phase → Word → (ℕ → Bool) → ℕ → Bool
owned_after s call phase found owned server =
    let act = action_of call.number phase in
    if is_server server (place_of s call.server act)
    then
    owns_after (step_kind act) (is_done (seen_in act found)) (word_after act found) (owned server)
    else owned server
