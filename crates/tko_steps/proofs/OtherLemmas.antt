-- Another thread's step: what it leaves a call to know of its looks, and to whom a call loses a try.
use Rattle.std.proofs.Common.{◌≡◌, ◌≢◌, ℕ, ◌+◌, ◌-◌, ◌<◌, ◌⊎◌, Bool, true, false, cond, List, ◌∷◌, length, set, inl, inr, ⊎_elim, refl, sym, ap, ◌∙◌, subst, arith, get_or-set_other}
use Rattle.std.proofs.lemmas.Bool.{and_right, cases_eq, ne_eqb}
use Rattle.tko_model.specs.declared.mark.Mark.{Mark}
use Rattle.tko_model.specs.Settings.{Settings}
use Rattle.tko_model.specs.declared.state.ServerState.{ServerState}
use Rattle.tko_model.specs.Tracker.{server_at}
use Rattle.tko_steps.specs.declared.phase.Call.{Call as CallState}
use Rattle.tko_steps.specs.declared.phase.Phase.{Phase}
use Rattle.tko_steps.specs.declared.phase.Phase.TheVariants.{Start, Read, AtThreshold, Limit, Reserving, Holding, Firming, Losing, Loosening, Loosened, Emptied}
use Rattle.tko_steps.specs.declared.phase.Slots.{Slots}
use Rattle.tko_steps.specs.declared.phase.ThreadState.{ThreadState}
use Rattle.tko_steps.specs.declared.phase.ThreadState.TheVariants.{NotEnrolled, Idle, InCall}
use Rattle.tko_steps.specs.declared.step.Place.{Place}
use Rattle.tko_steps.specs.declared.step.Place.TheVariants as place
use Rattle.tko_steps.specs.declared.step.Word.{Word}
use Rattle.tko_steps.specs.declared.step.Word.TheVariants as word
use Rattle.tko_steps.specs.declared.table.Action.{Action}
use Rattle.tko_steps.specs.declared.table.Action.TheVariants.{LookAtServer, LookAtSlots, Exchange, Reserve, Settle, Loosen, Give}
use Rattle.tko_model.specs.Ranges.{IsWithinRanges}
use Rattle.tko_steps.specs.Runs.{Turn, Moment, OwnStep, StepTaken, Took, World, run}
use Rattle.tko_steps.specs.Core.{Shared, abstract_of, follows, servers_after, thread_at, word_at, no_slots, slots_at, soft_words_after}
use Rattle.tko_steps.specs.StepNeeds.{CanAct}
use Rattle.tko_steps.specs.Steps.{place_of, word_after, slots_written}
use Rattle.tko_steps.specs.Invariant.{IsCore}
use Rattle.tko_steps.specs.Lost.{IsChangedSince}
use Rattle.tko_steps.specs.Table.{action_of, same_server, same_slots}
use Rattle.tko_steps.proofs.CountLemmas.{unread}
use Rattle.tko_steps.proofs.PhaseLemmas.{written}
use Rattle.tko_steps.proofs.RoomLemmas.{CanAct-at}
use Rattle.tko_steps.proofs.EveryTurnLemmas.{HoldsBoth}
use Rattle.tko_steps.proofs.EveryTurnLemmas.{InFamily-run}
use Rattle.tko_steps.proofs.FamilyLemmas.{Follows, InFamily, act_own}
use Rattle.tko_steps.proofs.LegalLemmas.{open_call}
use Rattle.tko_steps.proofs.LostLemmas.{HasLooked, IsTried, KnowsTries, Tries}
use Rattle.tko_steps.proofs.LostStepLemmas.{tries-act}
use Rattle.tko_steps.proofs.OwnLemmas.{act_step, enrol_step}
use Rattle.tko_steps.proofs.TableLemmas.{same_server-true}
use Rattle.tko_steps.proofs.WiringLemmas.{begun, stepped_from}
use Rattle.tko_model.specs.Groups.{group_of}

-- ---- what another thread's step changes

-- the stamp, and the counts, of a word
abbrev stamp_in : Word → ℕ
stamp_in (word.Server server) = server.stamp
stamp_in other = 0

abbrev firm_of : Word → ℕ
firm_of (word.Soft slots) = slots.firm
firm_of other = 0

abbrev held_of : Word → ℕ
held_of (word.Soft slots) = slots.held
held_of other = 0

-- this word, if it was found, still is there, or another thread changed it since
abbrev IsSince : {A : Type 0} → A → A → ℕ → Place → List Moment → Type 0
IsSince now found thread at past = (now ≡ found) ⊎ IsChangedSince thread at past

-- a word that a step on a server leaves as it is, or changes as the word that the step is on
module _ (s : Settings) (shared : Shared) (server : ℕ) where
  abbrev Moves : {A : Type 0} → A → A → Place → Action → Type 0
  Moves new now at action =
      let on = place_of s server action in
      (new ≡ now) ⊎ ((on ≡ at) × (word_after action (word_at shared on) ≢ word_at shared on))

  abbrev here : ServerState
  here = server_at shared.servers server

  exchange-moves : (found : ServerState) (mark : Mark) (won : Bool) (at : ℕ) → (won ≡ true → here ≡ found)
      → (server_at (cond won (set shared.servers server (written found mark)) shared.servers) at ≡ server_at shared.servers at)
      ⊎ ((place.Server server ≡ place.Server at) × (word.Server (cond won (written found mark) here) ≢ word.Server here))
  exchange-moves found mark false at was = inl refl
  exchange-moves found mark true at was =
      ⊎_elim
      (λ (same : at ≡ server).
      inr (
        ap place.Server (sym same),
        λ e.
            let stamps : found.stamp + 1 ≡ here.stamp = ap stamp_in e in
            let two : here.stamp ≡ found.stamp = ap (λ (it : ServerState). it.stamp) (was refl) in
            omega (arith, stamps, two),
      ))
      (λ (elsewhere : at ≡ server → ⊥). inl (get_or-set_other shared.servers server at (written found mark) unread elsewhere))
      (cases_eq at server)

  server-moves : (action : Action) (at : ℕ)
      → Moves (server_at (servers_after shared.servers server action) at) (server_at shared.servers at) (place.Server at) action
  server-moves LookAtServer at = inl refl
  server-moves LookAtSlots at = inl refl
  server-moves (Exchange found mark) at = exchange-moves found mark (same_server here found) at (same_server-true here found)
  server-moves (Reserve slots) at = inl refl
  server-moves Settle at = inl refl
  server-moves Loosen at = inl refl
  server-moves Give at = inl refl

  abbrev group : ℕ
  group = group_of s server

  abbrev counts : Slots
  counts = slots_at shared.slots group

  shift-moves : (new : Slots) (won : Bool) (at : ℕ) → (won ≡ true → word.Soft new ≢ word.Soft counts)
      → (slots_at (cond won (set shared.slots group new) shared.slots) at ≡ slots_at shared.slots at)
      ⊎ ((place.Soft group ≡ place.Soft at) × (word.Soft (cond won new counts) ≢ word.Soft counts))
  shift-moves new false at differs = inl refl
  shift-moves new true at differs =
      ⊎_elim
      (λ (same : at ≡ group). inr (ap place.Soft (sym same), differs refl))
      (λ (elsewhere : at ≡ group → ⊥). inl (get_or-set_other shared.slots group at new no_slots elsewhere))
      (cases_eq at group)

  soft-moves : (action : Action) (at : ℕ) → CanAct s shared server action
      → Moves (slots_at (soft_words_after shared.slots group action) at) (slots_at shared.slots at) (place.Soft at) action
  soft-moves LookAtServer at can = inl refl
  soft-moves LookAtSlots at can = inl refl
  soft-moves (Exchange found mark) at can = inl refl
  soft-moves (Reserve slots) at can =
      shift-moves (slots_written (Reserve slots) counts) (same_slots counts slots) at
      (λ won e. let more : counts.held + 1 ≡ counts.held = ap held_of e in omega (arith, more))
  soft-moves Settle at can =
      shift-moves (slots_written Settle counts) true at
      (λ won e. let more : counts.firm + 1 ≡ counts.firm = ap firm_of e in omega (arith, more))
  soft-moves Loosen at can =
      shift-moves (slots_written Loosen counts) true at
      (λ won e. let more : counts.held + 1 ≡ counts.held = ap held_of e in omega (arith, more))
  soft-moves Give at can =
      shift-moves (slots_written Give counts) true at
      (λ won e. let fewer : counts.held - 1 ≡ counts.held = ap held_of e in omega (arith, fewer, can.1))

-- what was known of a word since the last look at it, after a step of another thread
since-moved : {A : Type 0} (thread other : ℕ) (new now seen : A) (at : Place) (step : StepTaken) (past : List Moment) → (thread ≡ other → ⊥)
    → step.thread ≡ other → ((new ≡ now) ⊎ ((step.place ≡ at) × (step.left ≢ step.found)))
    → IsSince now seen thread at past → IsSince new seen thread at (Took step ∷ past)
since-moved thread other new now seen at step past apart by (inl same) (inl was) = inl (same ∙ was)
since-moved thread other new now seen at step past apart by (inl same) (inr changed) =
    inr (inr (and_right _ _ (and_right _ _ (ne_eqb step.thread thread (λ e. apart (sym e ∙ by)))), changed))
since-moved thread other new now seen at step past apart by (inr (on, differs)) since =
    inr (inl (record { other = λ e. apart (sym e ∙ by); place = on; changed = differs }))

-- ---- what a call knows stays

-- a world in which what was known of the words since the last look is still known
abbrev KeepsSince : World → World → ℕ → Type 0
KeepsSince w new thread =
    ((server : ℕ) (seen : ServerState) → IsSince (server_at (abstract_of w.core) server) seen thread (place.Server server) w.past
    → IsSince (server_at (abstract_of new.core) server) seen thread (place.Server server) new.past)
    × ((group : ℕ) (seen : Slots) → IsSince (slots_at w.core.shared.slots group) seen thread (place.Soft group) w.past
    → IsSince (slots_at new.core.shared.slots group) seen thread (place.Soft group) new.past)

module _ (s : Settings) (w new : World) (thread : ℕ) (call : CallState) (steps : List OwnStep) (keeps : KeepsSince w new thread) where
  looked-kept : (held : Bool) (found : ServerState) → HasLooked s w thread call.server call.lost steps held found
      → HasLooked s new thread call.server call.lost steps held found
  looked-kept held found has = record { count = has.count; holds = has.holds; looked = has.looked; since = keeps.0 call.server found has.since }

  tries-kept : (phase : Phase) → Tries s w thread call steps phase → Tries s new thread call steps phase
  tries-kept Start knows = knows
  tries-kept (Read found mark answer) knows = (looked-kept false found knows.0, knows.1)
  tries-kept (AtThreshold found) knows = looked-kept false found knows
  tries-kept (Limit found) knows = looked-kept false found knows
  tries-kept (Reserving found slots) knows =
      (looked-kept false found knows.0, record { looked = knows.1.looked; since = keeps.1 (group_of s call.server) slots knows.1.since })
  tries-kept (Holding found) knows = looked-kept true found knows
  tries-kept Firming knows = tt
  tries-kept Losing knows = knows
  tries-kept (Loosening found mark answer) knows = (looked-kept false found knows.0, knows.1)
  tries-kept (Loosened found mark answer) knows = (looked-kept true found knows.0, knows.1)
  tries-kept (Emptied answer) knows = knows

KeepsSince-stepped : (w : World) (thread other : ℕ) (state : ThreadState) → IsCore w.core → other < length w.core.threads
    → thread_at w.core other ≡ state → (thread ≡ other → ⊥) → KeepsSince w (stepped_from w other state) thread
KeepsSince-stepped w thread other NotEnrolled is inside stands apart =
    let step = enrol_step w.core other in (
      λ server seen since. since-moved thread other _ _ seen (place.Server server) step w.past apart refl (inl refl) since,
      λ group seen since. since-moved thread other _ _ seen (place.Soft group) step w.past apart refl (inl refl) since,
    )
KeepsSince-stepped w thread other (Idle number) is inside stands apart = (λ server seen since. since, λ group seen since. since)
KeepsSince-stepped w thread other (InCall call phase) is inside stands apart =
    let step = act_step w.core other call phase in
    let action = action_of call.number phase in (
      λ server seen since.
          since-moved thread other _ _ seen (place.Server server) step w.past apart refl (server-moves w.core.settings w.core.shared call.server action server) since,
      λ group seen since.
          since-moved thread other _ _ seen (place.Soft group) step w.past apart refl
          (soft-moves w.core.settings w.core.shared call.server action group (CanAct-at w.core other call is inside phase stands)) since,
    )

tried-open : (s : Settings) (w : World) (thread : ℕ) (call : CallState) (steps : List OwnStep) (phase : Phase)
    → KnowsTries s w thread call steps phase → IsTried s (open_call thread call steps)
tried-open s w thread call steps phase knows = (λ e. cc, knows.0)

-- ---- each run

pub TriedCalls-run : (s : Settings) → IsWithinRanges s → (turns : List Turn)
    → HoldsBoth s (run s turns) × InFamily s (KnowsTries s) (IsTried s) (run s turns)
TriedCalls-run s ranges turns =
    InFamily-run s (KnowsTries s) (IsTried s)
    (λ w thread number op server both stands. (tt, record { count = refl; holds = refl; looked = refl }))
    (tried-open s)
    (λ w thread call steps phase both inside stands found knows.
    let P : Settings → Type 0 = λ it. KnowsTries it w thread call steps phase in
    let Q : Settings → Type 0 = λ it.
    Follows it (KnowsTries it) (IsTried it) (stepped_from w thread (InCall call phase)) thread call steps (act_own w thread call phase) (follows w.core call phase) in
    subst Q both.0.settings (tries-act w thread call steps both.0.core inside phase stands (subst P (sym both.0.settings) knows)))
    (λ w thread other op server call steps phase knows.
    (knows.0, tries-kept s w (begun w other op server) thread call steps (λ at seen since. since, λ group seen since. since) phase knows.1))
    (λ w thread other state call steps phase both inside at here apart knows.
    (knows.0, tries-kept s w (stepped_from w other state) thread call steps (KeepsSince-stepped w thread other state both.0.core inside at apart) phase knows.1))
    ranges turns
