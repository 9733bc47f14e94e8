-- What is known of a call at each phase, over plain data: the steps that it took, the servers that
-- its thread owns, and the words that it is about to write.
use Rattle.std.proofs.Common.{◌≡◌, ℕ, ◌+◌, ◌-◌, ◌*◌, ◌<◌, ◌≤◌, true, List, ◌∷◌}
use Rattle.tko_model.specs.declared.mark.Mark.{Mark}
use Rattle.tko_model.specs.declared.mark.Op.{Op}
use Rattle.tko_model.specs.declared.mark.Op.TheVariants.{LookUp, SoftFailure, Release}
use Rattle.tko_model.specs.declared.mark.Reply.{Reply}
use Rattle.tko_model.specs.Settings.{Settings}
use Rattle.tko_steps.specs.declared.phase.Call.{Call}
use Rattle.tko_steps.specs.declared.phase.Phase.{Phase}
use Rattle.tko_steps.specs.declared.phase.Phase.TheVariants.{Start, Read, AtThreshold, Limit}
use Rattle.tko_steps.specs.declared.phase.Phase.TheVariants.{Reserving, Holding, Firming, Losing}
use Rattle.tko_steps.specs.declared.phase.Phase.TheVariants.{Loosening, Loosened, Emptied}
use Rattle.tko_steps.specs.declared.table.Decision.{Decision}
use Rattle.tko_steps.specs.declared.table.Decision.TheVariants.{Goes, Answers}
use Rattle.tko_steps.specs.Cost.{most_steps}
use Rattle.tko_steps.specs.Steps.{is_marked_state}
use Rattle.tko_steps.proofs.CostLemmas.{depth, per_try}
use Rattle.tko_steps.proofs.StartLemmas.{CanLoosen}
use Rattle.tko_table.specs.Passes.{owned_with, owns, without}
use Rattle.tko_tracker.specs.Calls.{answers_owner, can_answer, owned_left}
use Rattle.tko_tracker.specs.Running.{CanWrite}

-- no call goes on for more steps than this
abbrev pub left : Settings → ℕ → Phase → ℕ
left s lost phase = 5 * (s.tries - lost) - depth phase

-- an operation that may exchange a word with this mark
abbrev pub CanExchange : Op → Mark → Type 0
CanExchange LookUp mark = ⊥
CanExchange Release mark = is_marked_state mark ≡ true
CanExchange op mark = Unit {0}

-- this mark, written with this reply, leaves the owned servers that the reply says
pub record Leaves (op : Op) (mark : Mark) (answer : Reply) : Type 0 where
  pub allowed : can_answer op answer ≡ true
  pub owned : (server : ℕ) (servers : List ℕ)
      → owned_with servers server mark ≡ owned_left answer server servers

-- what a call at this phase knows, where its thread owned these servers as it began, and owns those
-- now
abbrev pub KnowsAt : Op → ℕ → List ℕ → List ℕ → Phase → Type 0
KnowsAt op server base owned Start = owned ≡ base
KnowsAt op server base owned (Read found mark answer) =
    (owned ≡ base) × CanExchange op found.mark × Leaves op mark answer
KnowsAt op server base owned (AtThreshold found) = (op ≡ SoftFailure) × (owned ≡ base)
KnowsAt op server base owned (Limit found) = (op ≡ SoftFailure) × (owned ≡ base)
KnowsAt op server base owned (Reserving found slots) = (op ≡ SoftFailure) × (owned ≡ base)
KnowsAt op server base owned (Holding found) = (op ≡ SoftFailure) × (owned ≡ base)
KnowsAt op server base owned Firming = (op ≡ SoftFailure) × (owned ≡ server ∷ without server base)
KnowsAt op server base owned Losing = (op ≡ SoftFailure) × (owned ≡ base)
KnowsAt op server base owned (Loosening found mark answer) =
    (owned ≡ base) × CanLoosen op × Leaves op mark answer × (is_marked_state found.mark ≡ true)
KnowsAt op server base owned (Loosened found mark answer) =
    (owned ≡ base) × CanLoosen op × Leaves op mark answer × (is_marked_state found.mark ≡ true)
KnowsAt op server base owned (Emptied answer) =
    (owned ≡ owned_left answer server base) × CanLoosen op × (can_answer op answer ≡ true)

-- what a call at this phase knows, where its thread owned the server as it began
abbrev pub OwnedAt : Op → Phase → Type 0
OwnedAt op Start = Unit {0}
OwnedAt op (Read found mark answer) =
    (is_marked_state found.mark ≡ true) × (answers_owner op answer ≡ true)
OwnedAt op (AtThreshold found) = ⊥
OwnedAt op (Limit found) = ⊥
OwnedAt op (Reserving found slots) = ⊥
OwnedAt op (Holding found) = ⊥
OwnedAt op Firming = ⊥
OwnedAt op Losing = ⊥
OwnedAt op (Loosening found mark answer) = answers_owner op answer ≡ true
OwnedAt op (Loosened found mark answer) = answers_owner op answer ≡ true
OwnedAt op (Emptied answer) = answers_owner op answer ≡ true

pub record Knows (s : Settings) (first : ℕ) (base : List ℕ) (call : Call) (phase : Phase)
    (steps : ℕ) (owned : List ℕ) : Type 0 where
  pub lost : call.lost < s.tries
  pub few : steps ≤ first + (per_try call.op * call.lost + depth phase)
  pub at : KnowsAt call.op call.server base owned phase
  pub writes : CanWrite call.number phase
  pub owner : owns base call.server ≡ true → OwnedAt call.op phase

-- what is known of an answered call
pub record Ends (s : Settings) (first : ℕ) (base : List ℕ) (call : Call) (answer : Reply)
    (steps : ℕ) (owned : List ℕ) : Type 0 where
  pub few : steps ≤ first + most_steps s call.op
  pub allowed : can_answer call.op answer ≡ true
  pub leaves : owned ≡ owned_left answer call.server base
  pub owner : owns base call.server ≡ true → answers_owner call.op answer ≡ true

-- the same once the step from this phase was decided
abbrev pub KnowsAfter : Settings → ℕ → List ℕ → Call → Phase → Decision → ℕ → List ℕ → Type 0
KnowsAfter s first base call phase (Goes lost next) steps owned =
    Knows s first base (record call { lost = lost }) next steps owned
    × (left s lost next < left s call.lost phase)
KnowsAfter s first base call phase (Answers answer) steps owned =
    Ends s first base call answer steps owned
