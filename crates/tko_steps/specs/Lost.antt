-- Lost tries: the steps at which a call loses a try and at which the lost try is counted, how many
-- it lost, and what another thread did before each of them.
use Rattle.std.specs.Prelude.{◌≡◌, ◌≢◌, ℕ, ◌+◌, Bool, true, false, not, ◌==◌, ◌&&◌, ◌||◌, nat_lt, if◌then◌else◌, List, [], ◌∷◌, ◌⊎◌, Option, Some, None, is_some}
use Rattle.tko_model.specs.declared.mark.Reply.TheVariants.{Contended}
use Rattle.tko_model.specs.Settings.{Settings}
use Rattle.tko_model.specs.Groups.{limit_of}
use Rattle.tko_steps.specs.declared.step.StepKind.{StepKind}
use Rattle.tko_steps.specs.declared.step.StepKind.TheVariants as kind
use Rattle.tko_steps.specs.declared.step.Place.{Place}
use Rattle.tko_steps.specs.declared.step.Place.TheVariants as place
use Rattle.tko_steps.specs.declared.step.Word.{Word}
use Rattle.tko_steps.specs.declared.step.Word.TheVariants as word
use Rattle.tko_steps.specs.Runs.{Step, Began, RunCall, Moment, OwnStep, StepTaken, Took, World, calls_of, happens}
use Rattle.tko_steps.specs.Core.{CoreState, thread_at}
use Rattle.tko_steps.specs.Invariant.{holds_in}
use Rattle.tko_steps.specs.Table.{same_server, same_slots}

abbrev pub is_look : StepKind → Bool
is_look kind.Look = true
is_look other = false

-- whether a step of this kind expects a word, and is lost where it finds another
abbrev pub is_exchange : StepKind → Bool
is_exchange kind.Count = true
is_exchange kind.Mark = true
is_exchange kind.Own = true
is_exchange kind.Reserve = true
is_exchange other = false

abbrev pub same_place : Place → Place → Bool
same_place (place.Server one) (place.Server other) = one == other
same_place (place.Soft one) (place.Soft other) = one == other
same_place place.Enrolment place.Enrolment = true
same_place one other = false

-- whether two words are equal
abbrev pub same_word : Word → Word → Bool
same_word (word.Server one) (word.Server other) = same_server one other
same_word (word.Soft one) (word.Soft other) = same_slots one other
same_word (word.Enrolled one) (word.Enrolled other) = one == other
same_word one other = false

-- whether an earlier look found this word, if there was one
abbrev pub was_seen : Option Word → Word → Bool
was_seen None found = false
was_seen (Some seen) found = same_word found seen

-- whether an earlier look, if there was one, found another word than this
abbrev pub is_other : Option Word → Word → Bool
is_other None found = false
is_other (Some seen) found = not (same_word seen found)

-- whether a server's word is another than an earlier look found it
abbrev pub differs : Option Word → Word → Bool
differs seen (word.Server server) = is_other seen (word.Server server)
differs seen found = false

-- whether calls under way hold all slots that are left of a group, though more marks could be
-- settled there
abbrev pub is_held_up : Settings → Place → Word → Bool
is_held_up s (place.Soft group) (word.Soft slots) =
    nat_lt slots.firm (limit_of s group) && ((slots.firm + slots.held) == limit_of s group)
is_held_up s at found = false

-- whether a step finds its word changed, given what this try's last look at the word found: a lost
-- exchange, or a second look that finds another word than the first; a word that this try did not
-- look at has not changed for it
abbrev pub finds_change : StepTaken → Option Word → Bool
finds_change step seen =
    if is_look step.kind then differs seen step.found else not step.won && is_some seen

-- whether a step is a look that finds no slot left, though more marks could be settled
abbrev pub finds_no_slot : Settings → StepTaken → Bool
finds_no_slot s step = is_look step.kind && is_held_up s step.place step.found

-- whether a step loses its try
abbrev pub loses_try : Settings → StepTaken → Option Word → Bool
loses_try s step seen = finds_change step seen || finds_no_slot s step

-- what this try's last look at the word of this place found, after these own steps of a call, the
-- newest first; a try ends at the step that loses it
abbrev pub last_look : Settings → Place → List OwnStep → Option Word
last_look s at [] = None
last_look s at (own ∷ older) =
    if loses_try s own.step (last_look s own.step.place older)
    then None
    else (if is_look own.step.kind && same_place own.step.place at
    then Some own.step.found
    else last_look s at older)

-- whether a call that did or didn't hold a slot holds one after a step of this kind: a reservation
-- that is won takes one, a shift turns it into a settled mark or back, and a give returns it
abbrev pub holds_after : StepKind → Bool → Bool → Bool
holds_after kind.Reserve won held = won || held
holds_after kind.Shift won held = not held
holds_after kind.Give won held = false
holds_after other won held = held

-- whether a call holds a slot after these own steps, the newest first
abbrev pub holds_slot : List OwnStep → Bool
holds_slot [] = false
holds_slot (own ∷ older) = holds_after own.step.kind own.step.won (holds_slot older)

abbrev pub is_give : StepKind → Bool
is_give kind.Give = true
is_give other = false

-- whether these own steps lost a try while the call held a slot, which it still holds
abbrev pub owes_slot : Settings → List OwnStep → Bool
owes_slot s [] = false
owes_slot s (own ∷ older) =
    if is_give own.step.kind
    then false
    else (if loses_try s own.step (last_look s own.step.place older)
    then holds_slot older
    else owes_slot s older)

-- whether a lost try is counted at this step: where the try is lost, or, where the call then holds
-- a slot, as after a lost mark, at the step that gives the slot back
abbrev pub counts_try : Settings → OwnStep → List OwnStep → Bool
counts_try s own older =
    if is_give own.step.kind
    then owes_slot s older
    else loses_try s own.step (last_look s own.step.place older) && not (holds_slot older)

-- how many lost tries these own steps count
abbrev pub lost_tries : Settings → List OwnStep → ℕ
lost_tries s [] = 0
lost_tries s (own ∷ older) = lost_tries s older + (if counts_try s own older then 1 else 0)

-- a call that is answered Contended lost exactly as many tries as the settings allow
abbrev pub HasLostEachTry : Settings → RunCall → Type 0
HasLostEachTry s call = call.answer ≡ Some Contended → lost_tries s call.steps ≡ s.tries

-- an exchange is won exactly where it finds the word that this try's last look there found, and no
-- other step is lost
abbrev pub ExpectsWhatItSaw : Settings → List OwnStep → Type 0
ExpectsWhatItSaw s [] = Unit {0}
ExpectsWhatItSaw s (own ∷ older) =
    (own.step.won
    ≡ (if is_exchange own.step.kind
    then was_seen (last_look s own.step.place older) own.step.found
    else true))
    × ExpectsWhatItSaw s older

-- The other threads.

-- a thread other than this one changed the word of this place
pub record IsChangeByOther (thread : ℕ) (at : Place) (step : StepTaken) : Type 0 where
  pub other : step.thread ≢ thread
  pub place : step.place ≡ at
  pub changed : step.left ≢ step.found

-- whether this is a look of this thread at the word of this place
abbrev pub is_look_of : ℕ → Place → StepTaken → Bool
is_look_of thread at step =
    is_look step.kind && (same_place step.place at && (step.thread == thread))

-- another thread changed the word of this place since this thread's last look at it
abbrev pub IsChangedSince : ℕ → Place → List Moment → Type 0
IsChangedSince thread at [] = ⊥
IsChangedSince thread at (Began own number op server ∷ past) = IsChangedSince thread at past
IsChangedSince thread at (Took step ∷ past) =
    IsChangeByOther thread at step
    ⊎ ((is_look_of thread at step ≡ false) × IsChangedSince thread at past)

-- a thread other than this one holds a slot of this group
pub record IsSlotOfOther (core : CoreState) (thread group : ℕ) : Type 0 where
  pub holder : ℕ
  pub other : holder ≢ thread
  pub holds : holds_in core.settings group (thread_at core holder) ≡ true

-- the own steps of the call that this thread began last
abbrev pub newest_steps : ℕ → List RunCall → List OwnStep
newest_steps thread [] = []
newest_steps thread (call ∷ calls) =
    if call.thread == thread then call.steps else newest_steps thread calls

-- this step, the next of its thread, is lost to another thread where it loses its try
pub record IsLostToOther (s : Settings) (w : World) (step : StepTaken) : Type 0 where
  pub changed : (let steps = newest_steps step.thread (calls_of w.past) in
      finds_change step (last_look s step.place steps) ≡ true →
      IsChangedSince step.thread step.place w.past)
  pub held : (group : ℕ) → step.place ≡ place.Soft group → finds_no_slot s step ≡ true →
      IsSlotOfOther w.core step.thread group

-- each try that a thread would lose at its next step is lost to another thread
abbrev pub LosesToOthers : Settings → World → Type 0
LosesToOthers s w =
    (thread : ℕ) (step : StepTaken) →
    (happens w (Step thread)).past ≡ Took step ∷ w.past → IsLostToOther s w step
