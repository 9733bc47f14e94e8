-- Claimed events, one after another.
use Rattle.std.proofs.Common.{◌≡◌, ℕ, zero, suc, ◌+◌, ◌<◌, ◌≤◌, List, [], ◌∷◌, ◌++◌, length, take, drop, get_or, refl, sym, ap, subst, ◌∙◌, arith, add-one}
use Rattle.std.proofs.lemmas.List.{length-take-le, take-append-drop}
use Rattle.std.proofs.Math.Seq.{drop-cons, take-length, take-suc}
use Rattle.tko_model.specs.Settings.{Settings}
use Rattle.tko_runs.specs.States.{AllCome, CanCome, IsFirstBad, RunState, opened_state, state_after, state_after_all}
use Rattle.tko_runs.specs.declared.run.event.Event.{Event}

-- One more event.

pub state_after_all-last : (state : RunState) (events : List Event) (event : Event)
    → state_after_all state (events ++ event ∷ []) ≡ state_after (state_after_all state events) event
state_after_all-last state [] event = refl
state_after_all-last state (first ∷ events) event = state_after_all-last (state_after state first) events event

pub AllCome-last : (state : RunState) (events : List Event) (event : Event)
    → AllCome state events → CanCome (state_after_all state events) event → AllCome state (events ++ event ∷ [])
AllCome-last state [] event come can = (can, tt)
AllCome-last state (first ∷ events) event come can =
    (come.0, AllCome-last (state_after state first) events event come.1 can)

-- The events before a place.

-- they can come one after another, and leave this state
pub record HasCome (s : Settings) (events : List Event) (place : ℕ) (state : RunState) : Type 0 where
  pub come : AllCome (opened_state s) (take place events)
  pub leave : state ≡ state_after_all (opened_state s) (take place events)

pub has_come-none : (s : Settings) (events : List Event) → HasCome s events 0 (opened_state s)
has_come-none s events = record { come = tt; leave = refl }

pub has_come-more : (s : Settings) (events : List Event) (place : ℕ) (state : RunState) (first : Event)
    → HasCome s events place state → place < length events → CanCome state (get_or events place first)
    → HasCome s events (place + 1) (state_after state (get_or events place first))
has_come-more s events place state first so_far inside can =
    let event = get_or events place first in
    let before = take place events in
    let one_more : take (place + 1) events ≡ before ++ event ∷ [] = rw add-one (take-suc events place first inside) in
    let P : RunState → Type 0 = λ it. CanCome it event in
    record {
      come = rw one_more (AllCome-last (opened_state s) before event so_far.come (subst P so_far.leave can));
      leave = rw one_more (ap (λ it. state_after it event) so_far.leave ∙ sym (state_after_all-last (opened_state s) before event));
    }

pub has_come-all : (s : Settings) (events : List Event) (place : ℕ) (state : RunState)
    → HasCome s events place state → length events ≤ place → place ≤ length events → AllCome (opened_state s) events
has_come-all s events place state so_far end inside =
    let last : place ≡ length events = omega arith in
    rw (last, take-length) at so_far.come

-- the event at this place is the first that can't come
pub has_come-bad : (s : Settings) (events : List Event) (place : ℕ) (state : RunState) (first : Event)
    → HasCome s events place state → place < length events → (CanCome state (get_or events place first) → ⊥)
    → IsFirstBad s events (place + 1)
has_come-bad s events place state first so_far inside cannot =
    let event = get_or events place first in
    let P : RunState → Type 0 = λ it. CanCome it event → ⊥ in
    record {
      before = take place events;
      bad = event;
      after = drop (place + 1) events;
      split = sym (take-append-drop place events) ∙ ap (λ rest. take place events ++ rest) (rw (add-one, drop-cons events place first inside) refl);
      place = ap (λ n. n + 1) (sym (length-take-le place events (omega arith)));
      others = so_far.come;
      cannot = subst P so_far.leave cannot;
    }

-- Events that all come.

-- each comes where it stands
pub AllCome-at : (state : RunState) (events : List Event) (place : ℕ) (first : Event) → AllCome state events
    → place < length events → CanCome (state_after_all state (take place events)) (get_or events place first)
AllCome-at state [] place first come inside = absurd (omega arith)
AllCome-at state (event ∷ events) zero first come inside = come.0
AllCome-at state (event ∷ events) (suc place) first come inside =
    AllCome-at (state_after state event) events place first come.1 (omega arith)

pub state_after_all-more : (state now : RunState) (events : List Event) (place : ℕ) (first : Event) → place < length events
    → now ≡ state_after_all state (take place events)
    → state_after now (get_or events place first) ≡ state_after_all state (take (place + 1) events)
state_after_all-more state now events place first inside is =
    let one_more : take (place + 1) events ≡ take place events ++ get_or events place first ∷ [] =
    rw add-one (take-suc events place first inside) in
    rw one_more
    (ap (λ it. state_after it (get_or events place first)) is
    ∙ sym (state_after_all-last state (take place events) (get_or events place first)))

pub comes_at : (opened now : RunState) (events : List Event) (place : ℕ) (first : Event) → AllCome opened events
    → now ≡ state_after_all opened (take place events) → place < length events → CanCome now (get_or events place first)
comes_at opened now events place first come is inside =
    let P : RunState → Type 0 = λ state. CanCome state (get_or events place first) in
    subst P (sym is) (AllCome-at opened events place first come inside)
