-- A try that a step loses is lost to another thread.
use Rattle.std.proofs.Common.{is_some, ◌≡◌, ℕ, suc, ◌+◌, ◌<◌, ◌≤◌, Bool, true, false, cond, not, ◌&&◌, eqb, ltb, List, [], ◌∷◌, length, get_or, count_by, Option, Some, inl, inr, ⊎_elim, refl, sym, ap, ◌∙◌, subst, arith}
use Rattle.std.proofs.lemmas.Bool.{and_left, and_parts, cases_Bool, cond-false, eq-eqb, eqb-true, ltb-true}
use Rattle.std.proofs.lemmas.List.Sums.{sum_by-cons}
use Rattle.tko_model.specs.declared.mark.Mark.{Mark}
use Rattle.tko_model.specs.declared.mark.Mark.TheVariants.{Soft}
use Rattle.tko_model.specs.Settings.{Settings}
use Rattle.tko_model.specs.declared.state.ServerState.{ServerState}
use Rattle.tko_model.specs.Tracker.{server_at}
use Rattle.tko_steps.specs.declared.phase.Call.{Call as CallState}
use Rattle.tko_steps.specs.declared.phase.Phase.{Phase}
use Rattle.tko_steps.specs.declared.phase.Phase.TheVariants.{Start, Read, AtThreshold, Limit, Reserving, Holding, Firming, Losing, Loosening, Loosened, Emptied}
use Rattle.tko_steps.specs.declared.phase.Slots.{Slots}
use Rattle.tko_steps.specs.declared.phase.ThreadState.{ThreadState}
use Rattle.tko_steps.specs.declared.phase.ThreadState.TheVariants.{NotEnrolled, Idle, InCall}
use Rattle.tko_steps.specs.declared.step.Place.TheVariants as place
use Rattle.tko_steps.specs.Core.{abstract_of, thread_at, slots_at}
use Rattle.tko_steps.specs.Steps.{kind_of_exchange}
use Rattle.tko_steps.specs.Invariant.{IsCore, holds_in}
use Rattle.tko_steps.specs.Lost.{IsChangedSince, IsLostToOther, IsSlotOfOther, LosesToOthers, finds_change, finds_no_slot, is_look, last_look, newest_steps}
use Rattle.tko_steps.specs.Runs.{InEveryRun, OwnStep, RunCall, StepTaken, Took, World, calls_of, run}
use Rattle.tko_steps.specs.Table.{same_server, same_slots}
use Rattle.tko_steps.proofs.CallLemmas.{latest}
use Rattle.tko_steps.proofs.EveryTurnLemmas.{HoldsBoth}
use Rattle.tko_steps.proofs.FamilyLemmas.{InFamily, Stands}
use Rattle.tko_steps.proofs.LegalLemmas.{open_call}
use Rattle.tko_steps.proofs.LostLemmas.{HasLooked, IsTried, KnowsTries, Tries}
use Rattle.tko_steps.proofs.OtherLemmas.{TriedCalls-run}
use Rattle.tko_steps.proofs.OwnLemmas.{act_step, enrol_step}
use Rattle.tko_steps.proofs.TableLemmas.{eq-same_server}
use Rattle.tko_steps.proofs.TryLemmas.{exchange-not_look}
use Rattle.tko_steps.proofs.WiringLemmas.{keeps-step, stepped_from}
use Rattle.tko_steps.proofs.CountLemmas.{bit}
use Rattle.tko_model.specs.Groups.{group_of, limit_of}
use Rattle.tko_steps.proofs.CoreLemmas.{own-group}

same_slots_refl : (slots : Slots) → same_slots slots slots ≡ true
same_slots_refl slots = rw (eq-eqb slots.firm slots.firm refl) (eq-eqb slots.held slots.held refl)

pub eq-same_slots : (one other : Slots) → one ≡ other → same_slots one other ≡ true
eq-same_slots one other e = subst (λ it. same_slots one it ≡ true) e (same_slots_refl one)

not-true : (b : Bool) → not b ≡ true → b ≡ true → ⊥
not-true true e is = cc
not-true false e is = cc

-- where a place of the list passes, one is found
pub record Passes {X : Type 0} (p : X → Bool) (xs : List X) (d : X) : Type 0 where
  pub at : ℕ
  pub passes : p (get_or xs at d) ≡ true

pub passes-count_by : {X : Type 0} (p : X → Bool) (xs : List X) (d : X) → 1 ≤ count_by p xs → Passes p xs d
passes-count_by p [] d one = absurd (omega (arith, one))
passes-count_by p (x ∷ xs) d one =
    elim (cases_Bool (p x)) [
      | inl has ↦ record { at = 0; passes = has }
      | inr lacks ↦
          let rest = passes-count_by p xs d (omega (arith, one, sum_by-cons (λ it. bit (p it)) x xs, ap bit lacks)) in
          record { at = suc rest.at; passes = rest.passes }
    ]

newest-either : (first : RunCall) (test : Bool) (found : Option RunCall) (steps : List OwnStep) (call : RunCall) → cond test (Some first) found ≡ Some call
    → (found ≡ Some call → steps ≡ call.steps) → cond test first.steps steps ≡ call.steps
newest-either first true found steps call is rest = let same : first ≡ call = cc in ap (λ (it : RunCall). it.steps) same
newest-either first false found steps call is rest = rest is

newest_steps-latest : (thread : ℕ) (calls : List RunCall) (call : RunCall) → latest thread calls ≡ Some call → newest_steps thread calls ≡ call.steps
newest_steps-latest thread [] call is = cc
newest_steps-latest thread (first ∷ calls) call is = newest-either first (eqb first.thread thread) (latest thread calls) (newest_steps thread calls) call is (newest_steps-latest thread calls call)

module _ (w : World) (thread : ℕ) (call : CallState) (steps : List OwnStep) (is : IsCore w.core) (inside : thread < length w.core.threads) where
  abbrev s : Settings
  s = w.core.settings

  abbrev now : ServerState
  now = server_at (abstract_of w.core) call.server

  abbrev slots : Slots
  slots = slots_at w.core.shared.slots (group_of s call.server)

  abbrev step : Phase → StepTaken
  step phase = act_step w.core thread call phase

  -- to whom the step of this phase loses its try
  abbrev IsLost : Phase → Type 0
  IsLost phase =
      (finds_change (step phase) (last_look s (step phase).place steps) ≡ true → IsChangedSince thread (step phase).place w.past)
      × ((group : ℕ) → (step phase).place ≡ place.Soft group → finds_no_slot s (step phase) ≡ true → IsSlotOfOther w.core thread group)

  -- a server that isn't as found was changed
  changed-server : (held : Bool) (found : ServerState) → HasLooked s w thread call.server call.lost steps held found → (same_server now found ≡ true → ⊥)
      → IsChangedSince thread (place.Server call.server) w.past
  changed-server held found has differs =
      ⊎_elim
      (λ (same : now ≡ found). absurd (differs (eq-same_server now found same)))
      (λ (changed : IsChangedSince thread (place.Server call.server) w.past). changed)
      has.since

  lost-exchange : (phase : Phase) (found : ServerState) (mark : Mark) (held : Bool) → HasLooked s w thread call.server call.lost steps held found
      → (step phase).kind ≡ kind_of_exchange found.mark mark → (step phase).won ≡ same_server now found
      → (step phase).place ≡ place.Server call.server → IsLost phase
  lost-exchange phase found mark held has of_kind is_won on =
      let no_look : is_look (step phase).kind ≡ false = ap is_look of_kind ∙ exchange-not_look found.mark mark in (
        λ e.
            let both : (not (step phase).won && is_some (last_look s (step phase).place steps)) ≡ true = sym (cond-false _ _ _ no_look) ∙ e in
            let lost : not (step phase).won ≡ true = (and_parts (not (step phase).won) (is_some (last_look s (step phase).place steps)) both).0 in
            let changed = changed-server held found has (λ won. not-true (step phase).won lost (is_won ∙ won)) in
            subst (λ at. IsChangedSince thread at w.past) (sym on) changed,
        λ group at e. let no : finds_no_slot s (step phase) ≡ false = and_left _ _ no_look in cc,
      )

  lost-AtThreshold : (found : ServerState) → thread_at w.core thread ≡ InCall call (AtThreshold found) → IsLost (AtThreshold found)
  lost-AtThreshold found stands = (
    λ e. cc,
    λ group at e.
        let own = group_of s call.server in
        let same : own ≡ group = cc in
        let parts = and_parts (ltb slots.firm (limit_of s own)) (eqb (slots.firm + slots.held) (limit_of s own)) e in
        let below = ltb-true slots.firm (limit_of s own) parts.0 in
        let all = eqb-true (slots.firm + slots.held) (limit_of s own) parts.1 in
        let one : 1 ≤ count_by (holds_in s own) w.core.threads = omega (arith, below, all, (own-group w.core call.server is).held) in
        let found_one = passes-count_by (holds_in s own) w.core.threads NotEnrolled one in
        subst (IsSlotOfOther w.core thread) same (record {
          holder = found_one.at;
          other = λ same.
              let mine : holds_in s own (thread_at w.core thread) ≡ true =
              ap (λ at. holds_in s own (thread_at w.core at)) (sym same) ∙ found_one.passes in
              let none : holds_in s own (thread_at w.core thread) ≡ false = ap (holds_in s own) stands in
              cc;
          holds = found_one.passes;
        }),
  )

  lost-to : (phase : Phase) → thread_at w.core thread ≡ InCall call phase → Tries s w thread call steps phase → IsLost phase
  lost-to Start stands knows = (
    λ e. let none : finds_change (step Start) (last_look s (place.Server call.server) steps) ≡ false = ap (λ it. finds_change (step Start) it) knows.looked in cc,
    λ group at e. cc,
  )
  lost-to (Read found mark answer) stands knows = lost-exchange (Read found mark answer) found mark false knows.0 refl refl refl
  lost-to (AtThreshold found) stands knows = lost-AtThreshold found stands
  lost-to (Limit found) stands knows = (
    λ e.
        let phase : Phase = Limit found in
        let other : not (same_server found now) ≡ true = sym (ap (λ it. finds_change (step phase) it) knows.looked) ∙ e in
        ⊎_elim
        (λ (same : now ≡ found). absurd (not-true (same_server found now) other (eq-same_server found now (sym same))))
        (λ (changed : IsChangedSince thread (place.Server call.server) w.past). changed)
        knows.since,
    λ group at e. cc,
  )
  lost-to (Reserving found before) stands knows = (
    λ e.
        ⊎_elim
        (λ (same : slots ≡ before).
        let lost = (and_parts (not (same_slots slots before)) (is_some (last_look s (place.Soft (group_of s call.server)) steps)) e).0 in
        absurd (not-true (same_slots slots before) lost (eq-same_slots slots before same)))
        (λ (changed : IsChangedSince thread (place.Soft (group_of s call.server)) w.past). changed)
        knows.1.since,
    λ group at e. cc,
  )
  lost-to (Holding found) stands knows = lost-exchange (Holding found) found (Soft call.number) true knows refl refl refl
  lost-to Firming stands knows = (λ e. cc, λ group at e. cc)
  lost-to Losing stands knows = (λ e. cc, λ group at e. cc)
  lost-to (Loosening found mark answer) stands knows = (λ e. cc, λ group at e. cc)
  lost-to (Loosened found mark answer) stands knows = lost-exchange (Loosened found mark answer) found mark true knows.0 refl refl refl
  lost-to (Emptied answer) stands knows = (λ e. cc, λ group at e. cc)

  pub lost-act : (phase : Phase) → thread_at w.core thread ≡ InCall call phase → latest thread (calls_of w.past) ≡ Some (open_call thread call steps)
      → Tries s w thread call steps phase → IsLostToOther s w (step phase)
  lost-act phase stands found knows =
      let both = lost-to phase stands knows in
      let same : newest_steps thread (calls_of w.past) ≡ steps = newest_steps-latest thread (calls_of w.past) (open_call thread call steps) found in
      let P : List OwnStep → Type 0 = λ it.
      finds_change (step phase) (last_look s (step phase).place it) ≡ true → IsChangedSince thread (step phase).place w.past in
      record { changed = subst P (sym same) both.0; held = both.1 }

-- a list is not itself with one more
not-longer : {X : Type 0} (x : X) (xs : List X) → xs ≡ x ∷ xs → ⊥
not-longer x xs e = let same : length xs ≡ suc (length xs) = ap length e in omega (arith, same)

lost-stepped_from : (s : Settings) (w : World) (thread : ℕ) (state : ThreadState) (step : StepTaken) → HoldsBoth s w
    → InFamily s (KnowsTries s) (IsTried s) w → thread < length w.core.threads → thread_at w.core thread ≡ state
    → (stepped_from w thread state).past ≡ Took step ∷ w.past → IsLostToOther s w step
lost-stepped_from s w thread NotEnrolled step both holds inside stands e =
    let same : enrol_step w.core thread ≡ step = cc in
    subst (IsLostToOther s w) same (record { changed = λ e. cc; held = λ group at e. cc })
lost-stepped_from s w thread (Idle number) step both holds inside stands e = absurd (not-longer (Took step) w.past e)
lost-stepped_from s w thread (InCall call phase) step both holds inside stands e =
    let same : act_step w.core thread call phase ≡ step = cc in
    let Q : ThreadState → Type 0 = λ it. Stands s (KnowsTries s) (IsTried s) w thread it (latest thread (calls_of w.past)) in
    let mine = subst Q stands (holds.stand thread) in
    let P : Settings → Type 0 = λ it. IsLostToOther it w (act_step w.core thread call phase) in
    let T : Settings → Type 0 = λ it. Tries it w thread call mine.0 phase in
    subst (IsLostToOther s w) same
    (subst P both.0.settings
    (lost-act w thread call mine.0 both.0.core inside phase stands mine.1 (subst T (sym both.0.settings) mine.2.1)))

pub LosesToOthers-run : InEveryRun LosesToOthers
LosesToOthers-run s ranges turns thread step =
    let w = run s turns in
    let all = TriedCalls-run s ranges turns in
    let P : World → Type 0 = λ new. new.past ≡ Took step ∷ w.past → IsLostToOther s w step in
    keeps-step P w thread (λ e. absurd (not-longer (Took step) w.past e))
    (λ inside e. lost-stepped_from s w thread (thread_at w.core thread) step all.0 all.1 inside refl e)
