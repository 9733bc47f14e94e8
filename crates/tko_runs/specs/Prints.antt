-- The text of a run, in the form of a version: a line for each event and skipped turn, then one for
-- each call, each server and each soft word, and `ok`.
use Rattle.std.specs.Prelude.{ℕ, ◌+◌, ◌-◌, List, [], ◌∷◌, ◌++◌, take, drop, codes, decimal}
use Rattle.std.specs.Prelude.{if◌then◌else◌, Option, Some, None}
use Rattle.tko_bytes.specs.Lines.{line_feed}
use Rattle.tko_model.specs.declared.mark.Op.{Op}
use Rattle.tko_model.specs.declared.mark.Reply.{Reply}
use Rattle.tko_model.specs.declared.state.ServerState.{ServerState}
use Rattle.tko_runs.specs.declared.run.event.Event.{Event}
use Rattle.tko_runs.specs.declared.run.event.Event.TheVariants as event
use Rattle.tko_runs.specs.declared.run.event.SkippedTurn.{SkippedTurn}
use Rattle.tko_runs.specs.declared.run.event.SkippedTurn.TheVariants as skipped
use Rattle.tko_runs.specs.declared.checking.order.Point.{Point}
use Rattle.tko_runs.specs.declared.checking.order.Point.TheVariants as point
use Rattle.tko_runs.specs.declared.version.Version.{Version}
use Rattle.tko_runs.specs.declared.version.Version.TheVariants as version
use Rattle.tko_runs.specs.States.{opened_state, state_after_all}
use Rattle.tko_runs.specs.Runs.{Skip, RunData}
use Rattle.tko_model.specs.Texts.{mark_text, op_text, reply_text}
use Rattle.tko_steps.specs.declared.step.BeginFault.{BeginFault}
use Rattle.tko_steps.specs.declared.step.BeginFault.TheVariants as fault
use Rattle.tko_steps.specs.declared.step.StepKind.{StepKind}
use Rattle.tko_steps.specs.declared.step.StepKind.TheVariants as kind
use Rattle.tko_steps.specs.declared.step.Place.{Place}
use Rattle.tko_steps.specs.declared.step.Place.TheVariants as place
use Rattle.tko_steps.specs.declared.phase.Slots.{Slots}
use Rattle.tko_steps.specs.declared.step.Word.{Word}
use Rattle.tko_steps.specs.declared.step.Word.TheVariants as word
use Rattle.tko_steps.specs.Core.{is_call_step}
use Rattle.tko_steps.specs.Lost.{same_word}
use Rattle.tko_steps.specs.Runs.{step_count_of}

abbrev pub line : List ℕ → List ℕ
line text = text ++ line_feed ∷ []

abbrev pub begin_text : ℕ → Op → ℕ → List ℕ
begin_text thread op server =
    codes "begin "
    ++ (decimal thread ++ (codes " " ++ (op_text op ++ (codes " " ++ decimal server))))

-- the soft word of a group, which the first version does not name
abbrev pub group_text : Version → ℕ → List ℕ
group_text version.One group = codes "soft"
group_text version.Two group = codes "soft:" ++ decimal group
group_text version.Three group = codes "soft:" ++ decimal group

abbrev pub place_text : Version → Place → List ℕ
place_text form (place.Server server) = codes "server:" ++ decimal server
place_text form (place.Soft group) = group_text form group
place_text form place.Enrolment = codes "enrolment"

abbrev pub kind_text : StepKind → List ℕ
kind_text kind.Look = codes " look "
kind_text kind.Count = codes " count "
kind_text kind.Mark = codes " mark "
kind_text kind.Own = codes " own "
kind_text kind.Reserve = codes " reserve "
kind_text kind.Shift = codes " shift "
kind_text kind.Give = codes " give "
kind_text kind.Enrol = codes " enrol "

abbrev pub state_text : ServerState → List ℕ
state_text server = mark_text server.mark ++ (codes "@" ++ decimal server.stamp)

abbrev pub slots_text : Slots → List ℕ
slots_text slots = codes "firm:" ++ (decimal slots.firm ++ (codes ",held:" ++ decimal slots.held))

abbrev pub word_text : Word → List ℕ
word_text (word.Server server) = state_text server
word_text (word.Soft slots) = slots_text slots
word_text (word.Enrolled count) = codes "enrolled:" ++ decimal count

-- an exchange that is lost leaves the word that it found
abbrev pub won_text : Word → Word → List ℕ
won_text found left = if same_word left found then codes "lost" else codes "won"

-- the end of a step's line: what a look found, whether an exchange was won, else that it is done
abbrev pub step_outcome_text : StepKind → Word → Word → List ℕ
step_outcome_text kind.Look found left = word_text found
step_outcome_text kind.Count found left = won_text found left
step_outcome_text kind.Mark found left = won_text found left
step_outcome_text kind.Own found left = won_text found left
step_outcome_text kind.Reserve found left = won_text found left
step_outcome_text kind.Shift found left = codes "done"
step_outcome_text kind.Give found left = codes "done"
step_outcome_text kind.Enrol found left = codes "done"

-- the line after a step that ends its call
abbrev pub answer_text : ℕ → Option Reply → List ℕ
answer_text thread None = []
answer_text thread (Some reply) =
    line (codes "answer " ++ (decimal thread ++ (codes " " ++ reply_text reply)))

-- the front of a step's line: its number, thread, kind and place
abbrev pub step_text : Version → ℕ → ℕ → StepKind → Place → List ℕ
step_text form number thread kind at =
    decimal number
    ++ (codes " " ++ (decimal thread ++ (kind_text kind ++ (place_text form at ++ codes " "))))

-- an event, which has that number if it is a step of a call; enrolments aren't printed
abbrev pub event_text : Version → ℕ → Event → List ℕ
event_text form number (event.Begin thread op server) = line (begin_text thread op server)
event_text form number (event.Step thread kind at found left answer) =
    if is_call_step kind
    then step_text form number thread kind at
    ++ (line (step_outcome_text kind found left) ++ answer_text thread answer)
    else []

-- the number of steps of calls that an event is: enrolments aren't numbered
abbrev pub steps_in_event : Event → ℕ
steps_in_event (event.Begin thread op server) = 0
steps_in_event (event.Step thread kind at found left answer) = step_count_of kind

-- the number after those of the events
abbrev pub number_behind : ℕ → List Event → ℕ
number_behind number [] = number
number_behind number (event ∷ events) = number_behind (number + steps_in_event event) events

-- the events, from that number on
abbrev pub events_text : Version → ℕ → List Event → List ℕ
events_text form number [] = []
events_text form number (event ∷ events) =
    event_text form number event ++ events_text form (number + steps_in_event event) events

abbrev pub refusal_text : BeginFault → List ℕ
refusal_text fault.NoThread = codes " refused no-thread"
refusal_text fault.Busy = codes " refused busy"
refusal_text fault.NoServer = codes " refused no-server"

abbrev pub skipped_text : SkippedTurn → List ℕ
skipped_text (skipped.Refused thread op server fault) =
    line (begin_text thread op server ++ refusal_text fault)
skipped_text (skipped.Idle thread) = line (codes "- " ++ (decimal thread ++ codes " idle"))
skipped_text (skipped.NoThread thread) = line (codes "- " ++ (decimal thread ++ codes " no-thread"))

-- the events after the first `place`, numbered from `number` on, with the skips between them
abbrev pub lines_text : Version → ℕ → ℕ → List Event → List Skip → List ℕ
lines_text form number place events [] = events_text form number events
lines_text form number place events (skip ∷ skips) =
    let first = take (skip.after - place) events in
    events_text form number first
    ++ (skipped_text skip.turn
    ++ lines_text
    form
    (number_behind number first)
    skip.after
    (drop (skip.after - place) events)
    skips)

abbrev pub point_text : Point → List ℕ
point_text (point.At number) = codes " at " ++ decimal number
point_text point.Contended = codes " contended"
point_text point.Open = codes " open"

-- the calls from that number on
abbrev pub order_text : ℕ → List Point → List ℕ
order_text number [] = []
order_text number (one ∷ others) =
    line (codes "call " ++ (decimal number ++ point_text one)) ++ order_text (number + 1) others

-- the servers from that number on
abbrev pub run_servers_text : ℕ → List ServerState → List ℕ
run_servers_text number [] = []
run_servers_text number (server ∷ others) =
    line (codes "server " ++ (decimal number ++ (codes " " ++ state_text server)))
    ++ run_servers_text (number + 1) others

-- the soft words of the groups from that number on
abbrev pub soft_words_text : Version → ℕ → List Slots → List ℕ
soft_words_text form group [] = []
soft_words_text form group (slots ∷ others) =
    line (group_text form group ++ (codes " " ++ slots_text slots))
    ++ soft_words_text form (group + 1) others

unfoldable pub run_text : RunData → List Point → List ℕ
run_text run order =
    let words = (state_after_all (opened_state run.settings) run.events).words in
    lines_text run.version 1 0 run.events run.skips
    ++ (order_text 1 order
    ++ (run_servers_text 0 words.servers
    ++ (soft_words_text run.version 0 words.slots ++ line (codes "ok"))))
