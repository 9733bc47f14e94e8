-- The kind of the step at each phase, and that only steps of some kinds are lost.
use Rattle.std.proofs.Common.{◌≡◌, ℕ, true, false, List, None, refl, sym, ap, ◌∙◌}
use Rattle.std.proofs.lemmas.List.Elements.{All-cons, All-nil, All-weaker}
use Rattle.tko_model.specs.declared.mark.Mark.{Mark}
use Rattle.tko_model.specs.declared.mark.Mark.TheVariants.{Up, Soft, Hard}
use Rattle.tko_model.specs.Settings.{Settings}
use Rattle.tko_model.specs.declared.state.ServerState.{ServerState}
use Rattle.tko_model.specs.Tracker.{server_at}
use Rattle.tko_steps.specs.declared.phase.Call.{Call}
use Rattle.tko_steps.specs.declared.phase.Phase.{Phase}
use Rattle.tko_steps.specs.declared.phase.Phase.TheVariants.{Start, Read, AtThreshold, Limit, Reserving, Holding, Firming, Losing, Loosening, Loosened, Emptied}
use Rattle.tko_steps.specs.declared.phase.ThreadState.{ThreadState}
use Rattle.tko_steps.specs.declared.phase.ThreadState.TheVariants.{NotEnrolled, Idle, InCall}
use Rattle.tko_steps.specs.declared.step.StepKind.TheVariants as kind
use Rattle.tko_steps.specs.Core.{CoreState, Shared, abstract_of, word_at}
use Rattle.tko_steps.specs.Owners.{owner_of}
use Rattle.tko_steps.specs.Invariant.{IsCore, IsFoundBy, IsOwnOrUp, IsPhase, IsThread}
use Rattle.tko_steps.specs.Kinds.{HasKind, HaveKinds, IsClearedOrHard, IsKindAt, IsReadKind, IsSure, NoneIsLost, can_be_lost}
use Rattle.tko_steps.specs.Runs.{InEveryRun, Took, World}
use Rattle.tko_steps.specs.Steps.{is_done, kind_of_exchange, place_of, seen_in, step_kind}
use Rattle.tko_steps.specs.Table.{action_of, same_server}
use Rattle.tko_steps.proofs.PhaseStepLemmas.{knows_at}
use Rattle.tko_steps.proofs.EveryTurnLemmas.{along}
use Rattle.tko_steps.proofs.OwnLemmas.{act_step, enrol_step}
use Rattle.tko_steps.proofs.TableLemmas.{eq-same_server}
use Rattle.tko_steps.proofs.WiringLemmas.{begun}

-- ---- the table of phases

read-kind : (number : ℕ) (now found : ServerState) (old new : Mark) → IsFoundBy number now found old → IsOwnOrUp number new
    → IsReadKind number old new (kind_of_exchange old new)
read-kind number now found (Up old) (Up count) by own = refl
read-kind number now found (Up old) (Soft thread) by own = own
read-kind number now found (Up old) (Hard thread) by own = (refl, own)
read-kind number now found (Soft owner) new by own = by
read-kind number now found (Hard owner) new by own = (refl, by.0)

holding-kind : (number : ℕ) (old : Mark) → owner_of old ≡ None
    → kind_of_exchange old (Soft number) ≡ kind.Mark
holding-kind number (Up count) none = refl
holding-kind number (Soft owner) none = cc
holding-kind number (Hard owner) none = cc

cleared-or-hard : (number : ℕ) (new : Mark) → IsOwnOrUp number new → IsClearedOrHard number new
cleared-or-hard number (Up count) own = tt
cleared-or-hard number (Soft thread) own = absurd own
cleared-or-hard number (Hard thread) own = own

loosened-kind : (number : ℕ) (old new : Mark) → old ≡ Soft number → kind_of_exchange old new ≡ kind.Own
loosened-kind number (Up count) new is = cc
loosened-kind number (Soft owner) new is = refl
loosened-kind number (Hard owner) new is = refl

kind-at : (s : Settings) (call : Call) (now : ServerState) (phase : Phase) → IsPhase s call now phase
    → IsKindAt call.number phase (step_kind (action_of call.number phase))
kind-at s call now Start knows = refl
kind-at s call now (Read found mark answer) knows = read-kind call.number now found found.mark mark knows.1 knows.0.own
kind-at s call now (AtThreshold found) knows = refl
kind-at s call now (Limit found) knows = refl
kind-at s call now (Reserving found slots) knows = refl
kind-at s call now (Holding found) knows = holding-kind call.number found.mark knows.0
kind-at s call now Firming knows = refl
kind-at s call now Losing knows = refl
kind-at s call now (Loosening found mark answer) knows = refl
kind-at s call now (Loosened found mark answer) knows =
    (loosened-kind call.number found.mark mark knows.1, knows.1, cleared-or-hard call.number mark knows.0.own)
kind-at s call now (Emptied answer) knows = refl

has-kind : (s : Settings) (servers : List ServerState) (state : ThreadState) → IsThread s servers state → HasKind state
has-kind s servers NotEnrolled is = tt
has-kind s servers (Idle number) is = tt
has-kind s servers (InCall call phase) is = kind-at s call (server_at servers call.server) phase is.2

pub HaveKinds-core : (core : CoreState) → IsCore core → HaveKinds core
HaveKinds-core core is =
    All-weaker (IsThread core.settings (abstract_of core)) HasKind (has-kind core.settings (abstract_of core)) core.threads is.calls

-- ---- lost steps

-- an exchange is lost only where it is a count or a mark
read-sure : (number : ℕ) (now found : ServerState) (old new : Mark) → found.mark ≡ old → IsFoundBy number now found old → IsOwnOrUp number new
    → can_be_lost (kind_of_exchange old new) ≡ false → same_server now found ≡ true
read-sure number now found (Up old) (Up count) is by own sure = cc
read-sure number now found (Up old) (Soft thread) is by own sure = cc
read-sure number now found (Up old) (Hard thread) is by own sure = cc
read-sure number now found (Soft owner) new is by own sure = absurd by
read-sure number now found (Hard owner) new is by own sure = eq-same_server now found by.1

module _ (s : Settings) (shared : Shared) (call : Call) where
  abbrev now_at : ServerState
  now_at = server_at shared.servers call.server

  -- a step of a kind that cannot be lost does what it meant to
  pub sure-act : (phase : Phase) → IsThread s shared.servers (InCall call phase)
      → can_be_lost (step_kind (action_of call.number phase)) ≡ false
      → is_done (seen_in (action_of call.number phase) (word_at shared (place_of s call.server (action_of call.number phase)))) ≡ true
  sure-act Start knows sure = refl
  sure-act (Read found mark answer) knows sure =
      read-sure call.number now_at found found.mark mark refl knows.2.1 knows.2.0.own sure
  sure-act (AtThreshold found) knows sure = refl
  sure-act (Limit found) knows sure = refl
  sure-act (Reserving found slots) knows sure = cc
  sure-act (Holding found) knows sure =
      let lost : true ≡ false = ap can_be_lost (sym (holding-kind call.number found.mark knows.2.0)) ∙ sure in cc
  sure-act Firming knows sure = refl
  sure-act Losing knows sure = refl
  sure-act (Loosening found mark answer) knows sure = refl
  sure-act (Loosened found mark answer) knows sure = eq-same_server now_at found knows.2.2
  sure-act (Emptied answer) knows sure = refl

abbrev Sure : Settings → World → Type 0
Sure s w = NoneIsLost w.past

pub NoneIsLost-run : InEveryRun (λ s w. NoneIsLost w.past)
NoneIsLost-run =
    along Sure
    (λ s ranges. All-nil IsSure)
    (λ s w thread number op server both inside stands on_server sure.
    let after = begun w thread op server in All-cons IsSure _ w.past tt sure)
    (λ s w thread both inside stands sure. All-cons IsSure (Took (enrol_step w.core thread)) w.past (λ e. refl) sure)
    (λ s w thread call phase both inside stands sure.
    All-cons IsSure (Took (act_step w.core thread call phase)) w.past
    (sure-act w.core.settings w.core.shared call phase (knows_at w.core thread call both.0.core inside phase stands)) sure)
