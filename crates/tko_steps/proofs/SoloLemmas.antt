-- One thread alone: it finds each word as it last saw it, so it loses no try.
use Rattle.std.proofs.Common.{◌≡◌, ◌≢◌, ℕ, ◌+◌, ◌≤◌, true, false, cond, eqb, List, Some, ⊎_elim, refl, sym, ap, ◌∙◌, arith}
use Rattle.std.proofs.lemmas.Bool.{cases_eq, cond_both, eqb-false, eqb-true}
use Rattle.tko_model.specs.declared.mark.Reply.TheVariants.{Contended, Full}
use Rattle.tko_model.specs.Settings.{Settings}
use Rattle.tko_model.specs.declared.state.ServerState.{ServerState}
use Rattle.tko_model.specs.Tracker.{server_at}
use Rattle.tko_steps.specs.declared.phase.Call.{Call as CallState}
use Rattle.tko_steps.specs.declared.phase.Phase.{Phase}
use Rattle.tko_steps.specs.declared.phase.Phase.TheVariants.{Start, Read, AtThreshold, Limit, Reserving, Holding, Firming, Losing, Loosening, Loosened, Emptied}
use Rattle.tko_steps.specs.declared.phase.Slots.{Slots}
use Rattle.tko_steps.specs.declared.phase.ThreadState.{ThreadState}
use Rattle.tko_steps.specs.declared.phase.ThreadState.TheVariants.{NotEnrolled, Idle, InCall}
use Rattle.tko_steps.specs.declared.table.Action.{Action}
use Rattle.tko_steps.specs.declared.table.Action.TheVariants.{LookAtServer, LookAtSlots, Exchange, Reserve, Settle, Loosen, Give}
use Rattle.tko_steps.specs.declared.table.Decision.{Decision}
use Rattle.tko_steps.specs.declared.table.Decision.TheVariants.{Goes, Answers}
use Rattle.tko_steps.specs.Core.{CoreState, abstract_of, after_act, follows, is_call_step, thread_at, slots_at}
use Rattle.tko_steps.specs.Steps.{decided_answer, decided_state, step_kind}
use Rattle.tko_steps.specs.Invariant.{IsCore, holds, holds_at, holds_in}
use Rattle.tko_steps.specs.Table.{goes, lost_try, same_server, same_slots}
use Rattle.tko_steps.proofs.CountLemmas.{holds_in-holds}
use Rattle.tko_steps.proofs.StartLemmas.{from_start-is, is_plain, plain≢}
use Rattle.tko_steps.proofs.LoserLemmas.{eq-same_slots, passes-count_by}
use Rattle.tko_steps.proofs.TableLemmas.{eq-same_server}
use Rattle.tko_steps.proofs.TryLemmas.{by_exchange}
use Rattle.tko_model.specs.Groups.{group_of, limit_at}
use Rattle.tko_steps.proofs.CoreLemmas.{own-group}

-- ---- what the thread saw still is there

abbrev pub SteadyAt : ServerState → Slots → Phase → Type 0
SteadyAt now slots Start = Unit {0}
SteadyAt now slots (Read found mark answer) = (now ≡ found) × (is_plain answer ≡ true)
SteadyAt now slots (AtThreshold found) = now ≡ found
SteadyAt now slots (Limit found) = now ≡ found
SteadyAt now slots (Reserving found before) = (now ≡ found) × (slots ≡ before)
SteadyAt now slots (Holding found) = now ≡ found
SteadyAt now slots Firming = Unit {0}
SteadyAt now slots Losing = ⊥
SteadyAt now slots (Loosening found mark answer) = is_plain answer ≡ true
SteadyAt now slots (Loosened found mark answer) = is_plain answer ≡ true
SteadyAt now slots (Emptied answer) = is_plain answer ≡ true

abbrev pub IsSteady : Settings → List ServerState → List Slots → ThreadState → Type 0
IsSteady s servers slots NotEnrolled = Unit {0}
IsSteady s servers slots (Idle number) = Unit {0}
IsSteady s servers slots (InCall call phase) = SteadyAt (server_at servers call.server) (slots_at slots (group_of s call.server)) phase

abbrev SteadyNext : Settings → CallState → List ServerState → List Slots → Decision → Type 0
SteadyNext s call servers slots (Goes lost phase) =
    SteadyAt (server_at servers call.server) (slots_at slots (group_of s call.server)) phase
SteadyNext s call servers slots (Answers answer) = answer ≢ Contended

pub steady-state : (s : Settings) (call : CallState) (servers : List ServerState) (slots : List Slots) (decision : Decision) → SteadyNext s call servers slots decision
    → IsSteady s servers slots (decided_state call decision)
steady-state s call servers slots (Goes lost phase) next = next
steady-state s call servers slots (Answers answer) next = tt

pub steady-plain : (s : Settings) (call : CallState) (servers : List ServerState) (slots : List Slots) (decision : Decision) → SteadyNext s call servers slots decision
    → decided_answer decision ≢ Some Contended
steady-plain s call servers slots (Goes lost phase) next = λ e. cc
steady-plain s call servers slots (Answers answer) next = λ e. let same : answer ≡ Contended = cc in next same

-- no other thread holds a slot
abbrev pub NoOtherHolds : CoreState → ℕ → Type 0
NoOtherHolds core thread = (other : ℕ) → (other ≡ thread → ⊥) → holds (thread_at core other) ≡ false

module _ (core : CoreState) (thread : ℕ) (call : CallState) (is : IsCore core) (alone : NoOtherHolds core thread) where
  abbrev s : Settings
  s = core.settings

  abbrev now : ServerState
  now = server_at (abstract_of core) call.server

  abbrev slots : Slots
  slots = slots_at core.shared.slots (group_of s call.server)

  abbrev Next : Phase → Decision → Type 0
  Next phase decision =
      let new = after_act core thread call phase in
      SteadyNext s call (abstract_of new) new.shared.slots decision

  -- while the thread holds no slot, nobody does
  none-held : (phase : Phase) → thread_at core thread ≡ InCall call phase → holds_at phase ≡ false → 1 ≤ slots.held → ⊥
  none-held phase stands none one =
      let own = group_of s call.server in
      let found = passes-count_by (holds_in s own) core.threads NotEnrolled (omega (arith, one, (own-group core call.server is).held)) in
      let theirs = holds_in-holds s own (thread_at core found.at) found.passes in
      ⊎_elim
      (λ (same : found.at ≡ thread).
      let mine : holds (thread_at core found.at) ≡ false = ap (λ at. holds (thread_at core at)) same ∙ ap holds stands ∙ none in
      cc)
      (λ (apart : found.at ≡ thread → ⊥).
      let not = alone found.at apart in
      cc)
      (cases_eq found.at thread)

  pub steady-act : (phase : Phase) → thread_at core thread ≡ InCall call phase → SteadyAt now slots phase → Next phase (follows core call phase)
  steady-act Start stands knows =
      from_start-is s call now (Next Start)
      (λ answer is_answer is. is_answer.contended)
      (λ soft fresh is. refl)
      (λ mark answer put can by is. (refl, put.plain))
      (λ mark answer put can own is. put.plain)
  steady-act (Read found mark answer) stands knows =
      let phase : Phase = Read found mark answer in
      cond_both (same_server now found) (Answers answer) (lost_try s call) (Next phase)
      (λ won. plain≢ answer Contended knows.1 refl)
      (λ lost. let same = eq-same_server now found knows.0 in cc)
  steady-act (AtThreshold found) stands knows =
      let phase : Phase = AtThreshold found in
      let rest = cond (eqb (slots.firm + slots.held) (limit_at s call.server)) (lost_try s call) (goes call (Reserving found slots)) in
      cond_both (eqb slots.firm (limit_at s call.server)) (goes call (Limit found)) rest (Next phase)
      (λ full. knows)
      (λ below. cond_both (eqb (slots.firm + slots.held) (limit_at s call.server)) (lost_try s call) (goes call (Reserving found slots)) (Next phase)
      (λ held.
      let all = eqb-true (slots.firm + slots.held) (limit_at s call.server) held in
      let apart = eqb-false slots.firm (limit_at s call.server) below in
      absurd (none-held phase stands refl (omega (arith, all, apart))))
      (λ left. (knows, refl)))
  steady-act (Limit found) stands knows =
      let phase : Phase = Limit found in
      cond_both (same_server found now) (Answers Full) (lost_try s call) (Next phase)
      (λ same. λ e. cc)
      (λ other. let same = eq-same_server found now (sym knows) in cc)
  steady-act (Reserving found before) stands knows =
      let phase : Phase = Reserving found before in
      cond_both (same_slots slots before) (goes call (Holding found)) (lost_try s call) (Next phase)
      (λ won. knows.0)
      (λ lost. let same = eq-same_slots slots before knows.1 in cc)
  steady-act (Holding found) stands knows =
      let phase : Phase = Holding found in
      cond_both (same_server now found) (goes call Firming) (goes call Losing) (Next phase)
      (λ won. tt)
      (λ lost. let same = eq-same_server now found knows in cc)
  steady-act Firming stands knows = λ e. cc
  steady-act Losing stands knows = absurd knows
  steady-act (Loosening found mark answer) stands knows = knows
  steady-act (Loosened found mark answer) stands knows = knows
  steady-act (Emptied answer) stands knows = plain≢ answer Contended knows refl

pub act-is_call_step : (action : Action) → is_call_step (step_kind action) ≡ true
act-is_call_step LookAtServer = refl
act-is_call_step LookAtSlots = refl
act-is_call_step (Exchange found mark) = by_exchange (λ it. is_call_step it ≡ true) refl refl refl found.mark mark
act-is_call_step (Reserve before) = refl
act-is_call_step Settle = refl
act-is_call_step Loosen = refl
act-is_call_step Give = refl
