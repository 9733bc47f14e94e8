-- The responsible thread's calls: what is known of them stays where other threads step.
use Rattle.std.proofs.Common.{◌≡◌, ◌≢◌, ℕ, List, All, Some, None, refl, ◌∙◌}
use Rattle.std.proofs.lemmas.List.Elements.{All-nil}
use Rattle.tko_model.specs.declared.mark.Reply.TheVariants.{Contended, Worn}
use Rattle.tko_steps.specs.declared.phase.Call.{Call as CallState}
use Rattle.tko_steps.specs.declared.phase.Phase.{Phase}
use Rattle.tko_steps.specs.declared.phase.Phase.TheVariants.{Start, Read, AtThreshold, Limit, Reserving, Holding, Firming, Losing, Loosening, Loosened, Emptied}
use Rattle.tko_steps.specs.declared.phase.ThreadState.{ThreadState}
use Rattle.tko_steps.specs.declared.phase.ThreadState.TheVariants.{NotEnrolled, Idle, InCall}
use Rattle.tko_steps.specs.Owners.{IsOwner}
use Rattle.tko_steps.specs.Legal.{IsOwnersAnswer}
use Rattle.tko_steps.specs.Runs.{InEveryRun, OwnStep, World, calls_of, owns_in_past}
use Rattle.tko_steps.proofs.EveryTurnLemmas.{InFamily-run}
use Rattle.tko_steps.proofs.LegalLemmas.{open_call}
use Rattle.tko_steps.proofs.OwnLemmas.{act_step, enrol_step, owns-apart}
use Rattle.tko_steps.proofs.WiringLemmas.{begun, stepped_from}
use Rattle.tko_steps.proofs.OwnerLemmas.{IsNotOwners, IsUnowned, KnowsOwner, all_any, owner-act}

-- ---- what other threads leave

module _ (w new : World) (thread : ℕ) (call : CallState) (steps : List OwnStep)
    (same : owns_in_past new.past thread call.server ≡ owns_in_past w.past thread call.server) where
  unowned-kept : IsUnowned w.past thread call.number call.server steps → IsUnowned new.past thread call.number call.server steps
  unowned-kept unowned = record { none = unowned.none; owned = same ∙ unowned.owned }

  owner-kept : (phase : Phase) → KnowsOwner w thread call steps phase → KnowsOwner new thread call steps phase
  owner-kept Start knows = knows
  owner-kept (Read found mark answer) knows = (knows.0, λ unmarked. unowned-kept (knows.1 unmarked))
  owner-kept (AtThreshold found) knows = unowned-kept knows
  owner-kept (Limit found) knows = unowned-kept knows
  owner-kept (Reserving found slots) knows = unowned-kept knows
  owner-kept (Holding found) knows = unowned-kept knows
  owner-kept Firming knows = tt
  owner-kept Losing knows = unowned-kept knows
  owner-kept (Loosening found mark answer) knows = knows
  owner-kept (Loosened found mark answer) knows = knows
  owner-kept (Emptied answer) knows = knows

owns-stepped : (w : World) (thread other : ℕ) (state : ThreadState) (server : ℕ) → (thread ≡ other → ⊥)
    → owns_in_past (stepped_from w other state).past thread server ≡ owns_in_past w.past thread server
owns-stepped w thread other NotEnrolled server apart = owns-apart w.past (enrol_step w.core other) thread server apart
owns-stepped w thread other (Idle number) server apart = refl
owns-stepped w thread other (InCall call phase) server apart = owns-apart w.past (act_step w.core other call phase) thread server apart

owner-open : (w : World) (thread : ℕ) (call : CallState) (steps : List OwnStep) (phase : Phase)
    → KnowsOwner w thread call steps phase → IsOwnersAnswer (open_call thread call steps)
owner-open w thread call steps phase knows =
    all_any
    (λ (it : OwnStep). IsOwner it.step.before call.number call.server → (None ≢ Some Worn) × (None ≢ Some Contended))
    (λ it owner. (λ e. cc, λ e. cc)) steps

pub OwnersAnswers-run : InEveryRun (λ s w. All IsOwnersAnswer (calls_of w.past))
OwnersAnswers-run s ranges turns =
    (InFamily-run s KnowsOwner IsOwnersAnswer
    (λ w thread number op server both stands. All-nil (IsNotOwners number server))
    owner-open
    (λ w thread call steps phase both inside stands found knows.
    owner-act w thread call steps both.0.core inside both.0.owned phase stands knows)
    (λ w thread other op server call steps phase knows. owner-kept w (begun w other op server) thread call steps refl phase knows)
    (λ w thread other state call steps phase both inside at here apart knows.
    owner-kept w (stepped_from w other state) thread call steps (owns-stepped w thread other state call.server apart) phase knows)
    ranges turns).1.calls
