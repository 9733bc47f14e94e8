-- How the steps of a call stand to its answer, step by step.
use Rattle.std.proofs.Common.{◌≡◌, ℕ, List, [], ◌∷◌, ◌++◌, All, Option, Some, None, refl, ap}
use Rattle.std.proofs.lemmas.List.Elements.{All-nil, All-cons, All-head, All-tail}
use Rattle.tko_model.specs.Settings.{Settings}
use Rattle.tko_runs.specs.declared.checking.point.PointSoFar.TheVariants.{Quiet, Changed}
use Rattle.tko_runs.specs.Points.{IsChangedNowhere, IsEffective, IsSoFar}
use Rattle.tko_steps.specs.Legal.{ChangesNothing}
use Rattle.tko_steps.specs.Runs.{OwnStep, RunCall}

-- Lists of steps around one of them.

-- what holds of the others and of the one holds of all
pub all_with : (P : OwnStep → Type 0) (newer : List OwnStep) (own : OwnStep) (older : List OwnStep)
    → All P (newer ++ older) → P own → All P (newer ++ own ∷ older)
all_with P [] own older others here = All-cons P own older here others
all_with P (step ∷ newer) own older others here =
    All-cons P step (newer ++ own ∷ older) (All-head P step (newer ++ older) others)
    (all_with P newer own older (All-tail P step (newer ++ older) others) here)

-- what holds of all holds of the one
pub all_own : (P : OwnStep → Type 0) (newer : List OwnStep) (own : OwnStep) (older : List OwnStep)
    → All P (newer ++ own ∷ older) → P own
all_own P [] own older all = All-head P own older all
all_own P (step ∷ newer) own older all =
    all_own P newer own older (All-tail P step (newer ++ own ∷ older) all)

-- and of the others
pub all_others : (P : OwnStep → Type 0) (newer : List OwnStep) (own : OwnStep) (older : List OwnStep)
    → All P (newer ++ own ∷ older) → All P (newer ++ older)
all_others P [] own older all = All-tail P own older all
all_others P (step ∷ newer) own older all =
    All-cons P step (newer ++ older) (All-head P step (newer ++ own ∷ older) all)
    (all_others P newer own older (All-tail P step (newer ++ own ∷ older) all))

pub all_newer : (P : OwnStep → Type 0) (newer older : List OwnStep) → All P (newer ++ older) → All P newer
all_newer P [] older all = All-nil P
all_newer P (step ∷ newer) older all =
    All-cons P step newer (All-head P step (newer ++ older) all)
    (all_newer P newer older (All-tail P step (newer ++ older) all))

-- One more step.

pub no_step : (s : Settings) (call : RunCall) → IsSoFar s call [] (Quiet None)
no_step s call = record { quiet = All-nil ChangesNothing; nowhere = All-nil (λ step. IsEffective s call step → ⊥) }

-- all of these steps are quiet
quiet_before : (s : Settings) (call : RunCall) (steps : List OwnStep) (before : Option ℕ) → IsSoFar s call steps (Quiet before) → All ChangesNothing steps
quiet_before s call steps None stands = stands.quiet
quiet_before s call steps (Some number) stands = stands.quiet

-- one of these steps isn't
changed_before : (s : Settings) (call : RunCall) (steps : List OwnStep) (before : Option ℕ) → IsSoFar s call steps (Changed before) → All ChangesNothing steps → ⊥
changed_before s call steps None stands all = stands.changed all
changed_before s call steps (Some number) stands all =
    stands.changed (all_own ChangesNothing stands.newer stands.own stands.older (rw stands.split at all))

module _ (s : Settings) (call : RunCall) (own : OwnStep) (older : List OwnStep) where
  pub quiet_effective : (before : Option ℕ) (number : ℕ) → IsSoFar s call older (Quiet before) → own.at ≡ number
      → ChangesNothing own → IsEffective s call own → IsSoFar s call (own ∷ older) (Quiet (Some number))
  quiet_effective before number stands at quiet effect =
      record {
        newer = [];
        own = own;
        older = older;
        split = refl;
        at = at;
        effect = effect;
        quiet = All-cons ChangesNothing own older quiet (quiet_before s call older before stands);
        last = All-nil (λ step. IsEffective s call step → ⊥);
      }

  pub quiet_ineffective : (before : Option ℕ) → IsSoFar s call older (Quiet before)
      → ChangesNothing own → (IsEffective s call own → ⊥) → IsSoFar s call (own ∷ older) (Quiet before)
  quiet_ineffective None stands quiet not =
      record {
        quiet = All-cons ChangesNothing own older quiet stands.quiet;
        nowhere = All-cons (λ step. IsEffective s call step → ⊥) own older not stands.nowhere;
      }
  quiet_ineffective (Some number) stands quiet not =
      record {
        newer = own ∷ stands.newer;
        own = stands.own;
        older = stands.older;
        split = ap (λ steps. own ∷ steps) stands.split;
        at = stands.at;
        effect = stands.effect;
        quiet = All-cons ChangesNothing own older quiet stands.quiet;
        last = All-cons (λ step. IsEffective s call step → ⊥) own stands.newer not stands.last;
      }

  pub first_effective : (before : Option ℕ) (number : ℕ) → IsSoFar s call older (Quiet before) → own.at ≡ number
      → (ChangesNothing own → ⊥) → IsEffective s call own → IsSoFar s call (own ∷ older) (Changed (Some number))
  first_effective before number stands at changed effect =
      record {
        newer = [];
        own = own;
        older = older;
        split = refl;
        at = at;
        effect = effect;
        changed = changed;
        others = quiet_before s call older before stands;
      }

  -- the call takes effect at no step with quiet others, where it doesn't at the newest, which isn't quiet
  none_newest : (ChangesNothing own → ⊥) → (IsEffective s call own → All ChangesNothing older → ⊥)
      → (newer : List OwnStep) (at : OwnStep) (rest : List OwnStep) → own ∷ older ≡ newer ++ at ∷ rest
      → IsEffective s call at → All ChangesNothing (newer ++ rest) → ⊥
  none_newest changed not [] at rest split effect others =
      let same : own ≡ at = cc in
      let tails : older ≡ rest = cc in
      not (rw (← same) at effect) (rw (← tails) at others)
  none_newest changed not (step ∷ newer) at rest split effect others =
      let same : own ≡ step = cc in
      changed (rw (← same) at (All-head ChangesNothing step (newer ++ rest) others))

  pub first_ineffective : (before : Option ℕ) → IsSoFar s call older (Quiet before)
      → (ChangesNothing own → ⊥) → (IsEffective s call own → ⊥) → IsSoFar s call (own ∷ older) (Changed None)
  first_ineffective before stands changed not =
      record {
        changed = λ all. changed (All-head ChangesNothing own older all);
        nowhere = none_newest changed (λ effect others. not effect);
      }

  pub second_change : (before : Option ℕ) → IsSoFar s call older (Changed before)
      → (ChangesNothing own → ⊥) → IsSoFar s call (own ∷ older) (Changed None)
  second_change before stands changed =
      record {
        changed = λ all. changed (All-head ChangesNothing own older all);
        nowhere = none_newest changed (λ effect others. changed_before s call older before stands others);
      }

  -- a quiet step behind one that isn't
  none_behind : IsChangedNowhere s call older
      → (newer : List OwnStep) (at : OwnStep) (rest : List OwnStep) → own ∷ older ≡ newer ++ at ∷ rest
      → IsEffective s call at → All ChangesNothing (newer ++ rest) → ⊥
  none_behind stands [] at rest split effect others =
      let tails : older ≡ rest = cc in
      stands.changed (rw (← tails) at others)
  none_behind stands (step ∷ newer) at rest split effect others =
      let tails : older ≡ newer ++ at ∷ rest = cc in
      stands.nowhere newer at rest tails effect (All-tail ChangesNothing step (newer ++ rest) others)

  pub quiet_behind : (before : Option ℕ) → IsSoFar s call older (Changed before)
      → ChangesNothing own → IsSoFar s call (own ∷ older) (Changed before)
  quiet_behind None stands quiet =
      record {
        changed = λ all. stands.changed (All-tail ChangesNothing own older all);
        nowhere = none_behind stands;
      }
  quiet_behind (Some number) stands quiet =
      record {
        newer = own ∷ stands.newer;
        own = stands.own;
        older = stands.older;
        split = ap (λ steps. own ∷ steps) stands.split;
        at = stands.at;
        effect = stands.effect;
        changed = stands.changed;
        others = All-cons ChangesNothing own (stands.newer ++ stands.older) quiet stands.others;
      }
