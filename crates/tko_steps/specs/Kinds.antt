-- The kinds of step: which a call takes at each phase, and which can be lost.
use Rattle.std.specs.Prelude.{◌≡◌, ℕ, Bool, true, false, List, All}
use Rattle.tko_model.specs.declared.mark.Mark.{Mark}
use Rattle.tko_model.specs.declared.mark.Mark.TheVariants.{Up, Soft, Hard}
use Rattle.tko_steps.specs.declared.phase.Phase.{Phase}
use Rattle.tko_steps.specs.declared.phase.Phase.TheVariants.{Start, Read, AtThreshold, Limit, Reserving, Holding, Firming, Losing, Loosening, Loosened, Emptied}
use Rattle.tko_steps.specs.declared.phase.ThreadState.{ThreadState}
use Rattle.tko_steps.specs.declared.phase.ThreadState.TheVariants.{InCall}
use Rattle.tko_steps.specs.declared.step.StepKind.{StepKind}
use Rattle.tko_steps.specs.declared.step.StepKind.TheVariants as kind
use Rattle.tko_steps.specs.Core.{CoreState}
use Rattle.tko_steps.specs.Runs.{Began, Moment, Took}
use Rattle.tko_steps.specs.Steps.{step_kind}
use Rattle.tko_steps.specs.Table.{action_of}

-- The table of phases.

-- the step from the phase Read, of a thread with this number: a count leaves an unmarked server
-- unmarked, a mark makes it the thread's hard mark, and an own step changes the thread's hard mark
abbrev pub IsReadKind : ℕ → Mark → Mark → StepKind → Type 0
IsReadKind number (Up old) (Up count) step = step ≡ kind.Count
IsReadKind number (Up old) (Soft thread) step = ⊥
IsReadKind number (Up old) (Hard thread) step = (step ≡ kind.Mark) × (thread ≡ number)
IsReadKind number (Soft owner) new step = ⊥
IsReadKind number (Hard owner) new step = (step ≡ kind.Own) × (owner ≡ number)

-- an own step makes a soft mark hard, or takes it away
abbrev pub IsClearedOrHard : ℕ → Mark → Type 0
IsClearedOrHard number (Up count) = Unit {0}
IsClearedOrHard number (Soft thread) = ⊥
IsClearedOrHard number (Hard thread) = thread ≡ number

-- a call at this phase, of a thread with this number, takes a step of this kind
abbrev pub IsKindAt : ℕ → Phase → StepKind → Type 0
IsKindAt number Start step = step ≡ kind.Look
IsKindAt number (Read found mark answer) step = IsReadKind number found.mark mark step
IsKindAt number (AtThreshold found) step = step ≡ kind.Look
IsKindAt number (Limit found) step = step ≡ kind.Look
IsKindAt number (Reserving found slots) step = step ≡ kind.Reserve
IsKindAt number (Holding found) step = step ≡ kind.Mark
IsKindAt number Firming step = step ≡ kind.Shift
IsKindAt number Losing step = step ≡ kind.Give
IsKindAt number (Loosening found mark answer) step = step ≡ kind.Shift
IsKindAt number (Loosened found mark answer) step =
    (step ≡ kind.Own) × (found.mark ≡ Soft number) × IsClearedOrHard number mark
IsKindAt number (Emptied answer) step = step ≡ kind.Give

-- the step that a thread takes next, if it has a call, is of the kind of its phase
abbrev pub HasKind : ThreadState → Type 0
HasKind (InCall call phase) = IsKindAt call.number phase (step_kind (action_of call.number phase))
HasKind state = Unit {0}

abbrev pub HaveKinds : CoreState → Type 0
HaveKinds core = All HasKind core.threads

-- Lost steps.

-- whether a step of this kind can be lost to another thread: one that exchanges a word which others
-- may change
abbrev pub can_be_lost : StepKind → Bool
can_be_lost kind.Count = true
can_be_lost kind.Mark = true
can_be_lost kind.Reserve = true
can_be_lost other = false

-- a step of another kind is not lost; so a thread's step on its own mark never is
abbrev pub IsSure : Moment → Type 0
IsSure (Began thread number op server) = Unit {0}
IsSure (Took step) = can_be_lost step.kind ≡ false → step.won ≡ true

-- none of this past is
abbrev pub NoneIsLost : List Moment → Type 0
NoneIsLost past = All IsSure past
