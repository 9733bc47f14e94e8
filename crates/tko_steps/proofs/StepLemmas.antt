-- A step changes one word, to what that word alone decides.
use Rattle.std.proofs.Common.{◌≡◌, ℕ, ◌<◌, Bool, true, false, cond, ◌+◌, List, length, set, refl, sym, ap, get_or-set_same, length-set}
use Rattle.std.proofs.lemmas.List.{set-get_or}
use Rattle.tko_model.specs.Settings.{Settings}
use Rattle.tko_model.specs.declared.state.ServerState.{ServerState}
use Rattle.tko_model.specs.Groups.{group_of}
use Rattle.tko_model.specs.Tracker.{server_at}
use Rattle.tko_steps.specs.declared.step.Place.{Place}
use Rattle.tko_steps.specs.declared.step.Place.TheVariants as place
use Rattle.tko_steps.specs.declared.step.Word.TheVariants as word
use Rattle.tko_steps.specs.declared.table.Action.{Action}
use Rattle.tko_steps.specs.declared.table.Action.TheVariants.{LookAtServer, LookAtSlots, Exchange, Reserve, Settle, Loosen, Give}
use Rattle.tko_steps.specs.declared.phase.Call.{Call}
use Rattle.tko_steps.specs.declared.phase.Slots.{Slots}
use Rattle.tko_steps.specs.declared.phase.Phase.{Phase}
use Rattle.tko_steps.specs.declared.step.Stepped.{Stepped}
use Rattle.tko_steps.specs.declared.step.Stepped.TheVariants as stepped
use Rattle.tko_steps.specs.declared.step.Word.{Word}
use Rattle.tko_steps.specs.Core.{CoreState, IsOnOneWord, Shared, found_by, follows, no_slots, seen_by, shared_after, slots_at, soft_words_after, reported_by_act, word_at}
use Rattle.tko_steps.specs.StepNeeds.{IsPlace}
use Rattle.tko_steps.specs.Steps.{decided_answer, is_done, place_of, server_written, slots_after, slots_written, step_kind, word_after, writes}
use Rattle.tko_steps.specs.Table.{action_of, same_server, same_slots}
use Rattle.tko_steps.proofs.CountLemmas.{unread}

-- these servers in place of the others
abbrev with_servers : Shared → List ServerState → Shared
with_servers shared servers = record { servers = servers; slots = shared.slots; enrolled = shared.enrolled }

-- these soft words in place of the others
abbrev with_soft : Shared → List Slots → Shared
with_soft shared slots = record { servers = shared.servers; slots = slots; enrolled = shared.enrolled }

exchange-one : (shared : Shared) (server : ℕ) (new : ServerState) (won : Bool)
    → (let now = server_at shared.servers server in
    with_servers shared (cond won (set shared.servers server new) shared.servers)
    ≡ with_servers shared (set shared.servers server (cond won new now)))
exchange-one shared server new true = refl
exchange-one shared server new false = ap (with_servers shared) (sym (set-get_or shared.servers server unread))

reserve-one : (shared : Shared) (group : ℕ) (new : Slots) (won : Bool)
    → (let now = slots_at shared.slots group in
    with_soft shared (cond won (set shared.slots group new) shared.slots)
    ≡ with_soft shared (set shared.slots group (cond won new now)))
reserve-one shared group new true = refl
reserve-one shared group new false = ap (with_soft shared) (sym (set-get_or shared.slots group no_slots))

pub on_one_word : (s : Settings) (shared : Shared) (server : ℕ) (action : Action) → IsOnOneWord s shared server action
on_one_word s shared server LookAtServer = ap (with_servers shared) (sym (set-get_or shared.servers server unread))
on_one_word s shared server LookAtSlots = ap (with_soft shared) (sym (set-get_or shared.slots (group_of s server) no_slots))
on_one_word s shared server (Exchange found mark) =
    let new : ServerState = record { mark = mark; stamp = found.stamp + 1 } in
    exchange-one shared server new (same_server (server_at shared.servers server) found)
on_one_word s shared server (Reserve slots) =
    let now = slots_at shared.slots (group_of s server) in
    reserve-one shared (group_of s server) (slots_written (Reserve slots) now) (same_slots now slots)
on_one_word s shared server Settle = refl
on_one_word s shared server Loosen = refl
on_one_word s shared server Give = refl

exchange-left : (shared : Shared) (server : ℕ) (new : ServerState) (won : Bool) → server < length shared.servers
    → server_at (cond won (set shared.servers server new) shared.servers) server ≡ cond won new (server_at shared.servers server)
exchange-left shared server new true inside = get_or-set_same shared.servers server new unread inside
exchange-left shared server new false inside = refl

slots-left : (slots : List Slots) (group : ℕ) (new : Slots) (won : Bool) → group < length slots
    → slots_at (cond won (set slots group new) slots) group ≡ cond won new (slots_at slots group)
slots-left slots group new true inside = get_or-set_same slots group new no_slots inside
slots-left slots group new false inside = refl

-- what a step leaves of the soft word that it is on
pub slots-after : (slots : List Slots) (group : ℕ) (action : Action) → group < length slots
    → slots_at (soft_words_after slots group action) group ≡ slots_after action (slots_at slots group)
slots-after slots group action inside =
    let now = slots_at slots group in
    slots-left slots group (slots_written action now) (writes action (word.Soft now)) inside

-- the word that a step leaves is the one that is there after it
pub left-is : (s : Settings) (shared : Shared) (server : ℕ) (action : Action) → IsPlace shared (place_of s server action)
    → word_at (shared_after s shared server action) (place_of s server action)
    ≡ word_after action (word_at shared (place_of s server action))
left-is s shared server LookAtServer there = refl
left-is s shared server LookAtSlots there = refl
left-is s shared server (Exchange found mark) there =
    let new : ServerState = record { mark = mark; stamp = found.stamp + 1 } in
    ap word.Server (exchange-left shared server new (same_server (server_at shared.servers server) found) there)
left-is s shared server (Reserve slots) there = ap word.Soft (slots-after shared.slots (group_of s server) (Reserve slots) there)
left-is s shared server Settle there = ap word.Soft (slots-after shared.slots (group_of s server) Settle there)
left-is s shared server Loosen there = ap word.Soft (slots-after shared.slots (group_of s server) Loosen there)
left-is s shared server Give there = ap word.Soft (slots-after shared.slots (group_of s server) Give there)

-- what a step reports, with the word that is at its place after it
abbrev pub reported : CoreState → Call → Phase → Stepped
reported core call phase =
    let act = action_of call.number phase in
    let at = place_of core.settings call.server act in
    stepped.Did (step_kind act) at (word_at core.shared at) (word_at (shared_after core.settings core.shared call.server act) at)
    (is_done (seen_by core.settings core.shared call.server act)) (decided_answer (follows core call phase))

pub reported-is : (core : CoreState) (call : Call) (phase : Phase) → IsPlace core.shared (place_of core.settings call.server (action_of call.number phase))
    → reported core call phase ≡ reported_by_act core call phase
reported-is core call phase there =
    let act = action_of call.number phase in
    ap (λ (left : Word).
    stepped.Did (step_kind act) (place_of core.settings call.server act) (found_by core call phase) left (is_done (seen_by core.settings core.shared call.server act)) (decided_answer (follows core call phase)))
    (left-is core.settings core.shared call.server act there)

-- ---- the places of the words stay

length-cond : {X : Type 0} (test : Bool) (xs : List X) (i : ℕ) (x : X) → length (cond test (set xs i x) xs) ≡ length xs
length-cond true xs i x = length-set xs i x
length-cond false xs i x = refl

pub IsPlace-after : (s : Settings) (shared : Shared) (server : ℕ) (action : Action) (at : Place) → IsPlace shared at
    → IsPlace (shared_after s shared server action) at
IsPlace-after s shared server action (place.Server other) there =
    let now = server_at shared.servers server in
    rw (length-cond (writes action (word.Server now)) shared.servers server (server_written action now)) there
IsPlace-after s shared server action (place.Soft group) there =
    let own = group_of s server in
    let now = slots_at shared.slots own in
    rw (length-cond (writes action (word.Soft now)) shared.slots own (slots_written action now)) there
IsPlace-after s shared server action place.Enrolment there = there
