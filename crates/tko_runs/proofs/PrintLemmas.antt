-- Numbers of steps, turns that were skipped several times, and the parts of a run's text.
use Rattle.std.proofs.Common.{◌≡◌, ℕ, zero, suc, ◌+◌, ◌-◌, ◌<◌, ◌≤◌, min, List, [], ◌∷◌, ◌++◌, length, get_or, take, drop, replicate, codes, refl, ◌∙◌, append_assoc, arith}
use Rattle.std.proofs.Math.Nat.{sub_self}
use Rattle.std.proofs.lemmas.List.{drop_more, take_min, drop_min}
use Rattle.tko_model.specs.declared.state.ServerState.{ServerState}
use Rattle.tko_runs.specs.States.{opened_state, state_after_all}
use Rattle.tko_runs.specs.Prints.{events_text, line, lines_text, number_behind, order_text, run_servers_text, run_text, skipped_text, soft_words_text, steps_in_event}
use Rattle.tko_runs.specs.Repeats.{repeated}
use Rattle.tko_runs.specs.Runs.{Skip, RunData, one_by_one}
use Rattle.tko_runs.specs.declared.run.event.Event.{Event}
use Rattle.tko_runs.specs.declared.run.event.Event.TheVariants.{Begin, Step}
use Rattle.tko_runs.specs.declared.run.event.SkippedTurn.{SkippedTurn}
use Rattle.tko_runs.specs.declared.checking.order.Point.{Point}
use Rattle.tko_runs.specs.declared.run.SkippedTurns.{SkippedTurns}
use Rattle.tko_runs.specs.declared.version.Version.{Version}
use Rattle.tko_runs.proofs.EventLemmas.{count_of-le}
use Rattle.tko_steps.specs.declared.phase.Slots.{Slots}
use Rattle.tko_steps.specs.Core.{Shared, is_call_step}

-- an event is at most one step
steps_of-le : (event : Event) → steps_in_event event ≤ 1
steps_of-le (Begin thread op server) = omega arith
steps_of-le (Step thread kind at found left answer) = count_of-le (is_call_step kind)

-- so each number is at most one above the one before
number_behind-le : (number : ℕ) (events : List Event) → number_behind number events ≤ number + length events
number_behind-le number [] = omega arith
number_behind-le number (event ∷ events) =
    omega (arith, number_behind-le (number + steps_in_event event) events, steps_of-le event)

-- one of several times
repeated-suc : (times : ℕ) (text : List ℕ) (rest : ℕ) → times ≡ suc rest → repeated times text ≡ text ++ repeated rest text
repeated-suc times text rest same = rw same refl

pub repeated_more :
    (so_far text : List ℕ) (times done : ℕ)
    → done < times
    → (so_far ++ text) ++ repeated (times - (done + 1)) text ≡ so_far ++ repeated (times - done) text
repeated_more so_far text times done more =
    rw (repeated-suc (times - done) text (times - (done + 1)) (omega arith), append_assoc) refl

-- a note that stands several times: the events before it come once, since between it and itself there is none
told_again :
    (form : Version) (number after : ℕ) (turn : SkippedTurn) (events : List Event) (skips : List Skip) (times : ℕ)
    → lines_text form number after events (replicate times (record { after = after; turn = turn }) ++ skips)
    ≡ repeated times (skipped_text turn) ++ lines_text form number after events skips
told_again form number after turn events skips zero = refl
told_again form number after turn events skips (suc times) =
    rw (sub_self after, told_again form number after turn events skips times, append_assoc) refl

told_first :
    (form : Version) (number place after : ℕ) (turn : SkippedTurn) (events : List Event) (skips : List Skip) (times : ℕ)
    → lines_text form number place events (replicate (suc times) (record { after = after; turn = turn }) ++ skips)
    ≡ events_text form number (take (after - place) events)
    ++ (repeated (suc times) (skipped_text turn)
    ++ lines_text form (number_behind number (take (after - place) events)) after (drop (after - place) events) skips)
told_first form number place after turn events skips times =
    let passed : ℕ = after - place in
    let behind : ℕ = number_behind number (take passed events) in
    rw (told_again form behind after turn (drop passed events) skips times, append_assoc) refl

-- a note that stands there at least once
told_skip :
    (form : Version) (number place : ℕ) (events : List Event) (skip : SkippedTurns) (skips : List SkippedTurns) (others : ℕ)
    → skip.times ≡ suc others
    → lines_text form number place events (one_by_one (skip ∷ skips))
    ≡ events_text form number (take (skip.after - place) events)
    ++ (repeated skip.times (skipped_text skip.turn)
    ++ lines_text form (number_behind number (take (skip.after - place) events)) skip.after (drop (skip.after - place) events) (one_by_one skips))
told_skip form number place events skip skips others same =
    rw same (told_first form number place skip.after skip.turn events (one_by_one skips) others)

-- a turn of the loop over the skips: `so_far` and what is left make the whole text
pub told_turn :
    (form : Version) (skips : List SkippedTurns) (i : ℕ) (d : SkippedTurns) (number place behind : ℕ) (rest first others : List Event)
    (so_far then_events then_skipped whole : List ℕ)
    → i < length skips
    → 0 < (get_or skips i d).times
    → first ≡ take (min ((get_or skips i d).after - place) (length rest)) rest
    → others ≡ drop (min ((get_or skips i d).after - place) (length rest)) rest
    → behind ≡ number_behind number first
    → then_events ≡ so_far ++ events_text form number first
    → then_skipped ≡ then_events ++ repeated (get_or skips i d).times (skipped_text (get_or skips i d).turn)
    → so_far ++ lines_text form number place rest (one_by_one (drop i skips)) ≡ whole
    → then_skipped ++ lines_text form behind (get_or skips i d).after others (one_by_one (drop (i + 1) skips)) ≡ whole
told_turn form skips i d number place behind rest first others so_far then_events then_skipped whole is some firsts lasts behinds events skipped_turns left =
    let skip : SkippedTurns = get_or skips i d in
    let passed : ℕ = skip.after - place in
    let heads : first ≡ take passed rest = firsts ∙ take_min passed rest in
    let tails : others ≡ drop passed rest = lasts ∙ drop_min passed rest in
    let later : List SkippedTurns = drop (i + 1) skips in
    let skipped_lines : List ℕ = repeated skip.times (skipped_text skip.turn) in
    let told : lines_text form number place rest (one_by_one (drop i skips)) ≡ events_text form number first ++ (skipped_lines ++ lines_text form behind skip.after others (one_by_one later)) =
    rw (drop_more skips i d is, behinds, heads, tails) (told_skip form number place rest skip later (skip.times - 1) (omega arith)) in
    rw (skipped_turns, events, append_assoc (so_far ++ events_text form number first), append_assoc so_far, ← told) left

-- the numbers that are left once some of the events have theirs
pub numbers_left :
    (number behind count bound : ℕ) (rest first others : List Event)
    → behind ≡ number_behind number first
    → length first ≡ count
    → length others + count ≡ length rest
    → number + length rest < bound
    → behind + length others < bound
numbers_left number behind count bound rest first others behinds firsts lasts room =
    omega (arith, number_behind-le number first)

regroup : (a b c d e : List ℕ) → (((a ++ b) ++ c) ++ d) ++ e ≡ a ++ (b ++ (c ++ (d ++ e)))
regroup a b c d e = simp append_assoc

-- the parts of a run's text, one behind the other
pub run_told :
    (run : RunData) (order : List Point) (events : List Event) (skips : List Skip) (words : Shared) (servers : List ServerState)
    (slots : List Slots) (form soft_form : Version) (opening told ordered served soft text : List ℕ)
    → events ≡ run.events
    → skips ≡ run.skips
    → words ≡ (state_after_all (opened_state run.settings) events).words
    → servers ≡ words.servers
    → slots ≡ words.slots
    → form ≡ run.version
    → soft_form ≡ run.version
    → opening ≡ []
    → told ≡ opening ++ lines_text form 1 0 events skips
    → ordered ≡ told ++ order_text 1 order
    → served ≡ ordered ++ run_servers_text 0 servers
    → soft ≡ served ++ soft_words_text soft_form 0 slots
    → text ≡ soft ++ line (codes "ok")
    → text ≡ run_text run order
unfolding run_text
run_told run order events skips words servers slots form soft_form opening told ordered served soft text is_events is_skips is_words is_servers is_slots is_form is_soft_form is_opening is_told is_ordered is_served is_soft is_text =
    let left : Shared = (state_after_all (opened_state run.settings) run.events).words in
    let whole = regroup (lines_text run.version 1 0 run.events run.skips) (order_text 1 order) (run_servers_text 0 left.servers)
    (soft_words_text run.version 0 left.slots) (line (codes "ok")) in
    rw (is_text, is_soft, is_served, is_ordered, is_told, is_opening, is_form, is_soft_form, is_slots, is_servers, is_words, is_events, is_skips) whole
