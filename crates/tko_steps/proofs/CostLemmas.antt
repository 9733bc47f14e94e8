-- The numbers of steps: what each phase says of how many steps its call took so far.
use Rattle.std.proofs.Common.{◌≡◌, ℕ, suc, ◌+◌, ◌*◌, ◌<◌, ◌≤◌, sym, subst, arith}
use Rattle.tko_model.specs.declared.mark.Mark.{Mark}
use Rattle.tko_model.specs.declared.mark.Mark.TheVariants.{Up, Soft, Hard}
use Rattle.tko_model.specs.declared.mark.Op.{Op}
use Rattle.tko_model.specs.declared.mark.Op.TheVariants.{LookUp, SoftFailure, HardFailure, Success, Release}
use Rattle.tko_model.specs.Settings.{Settings}
use Rattle.tko_model.specs.declared.state.ServerState.{ServerState}
use Rattle.tko_model.specs.Ranges.{IsWithinRanges}
use Rattle.tko_steps.specs.declared.phase.Call.{Call as CallState}
use Rattle.tko_steps.specs.declared.phase.Phase.{Phase}
use Rattle.tko_steps.specs.declared.phase.Phase.TheVariants.{Start, Read, AtThreshold, Limit, Reserving, Holding, Firming, Losing, Loosening, Loosened, Emptied}
use Rattle.tko_steps.specs.declared.table.Decision.{Decision}
use Rattle.tko_steps.specs.declared.table.Decision.TheVariants.{Goes, Answers}
use Rattle.tko_steps.specs.Cost.{most_steps}
use Rattle.tko_steps.specs.Invariant.{IsFoundBy}
use Rattle.tko_steps.specs.Steps.{begun_by}
use Rattle.tko_steps.proofs.StartLemmas.{CanLoosen, CanRead}

-- how many steps a lost try takes
abbrev pub per_try : Op → ℕ
per_try LookUp = 0
per_try SoftFailure = 5
per_try HardFailure = 2
per_try Success = 2
per_try Release = 0

-- how many steps of a try come before this phase
abbrev pub depth : Phase → ℕ
depth Start = 0
depth (Read found mark answer) = 1
depth (AtThreshold found) = 1
depth (Limit found) = 2
depth (Reserving found slots) = 2
depth (Holding found) = 3
depth Firming = 4
depth Losing = 4
depth (Loosening found mark answer) = 1
depth (Loosened found mark answer) = 2
depth (Emptied answer) = 3

-- an operation that comes to this phase
abbrev pub Fits : Op → ℕ → Phase → Type 0
Fits op number Start = Unit {0}
Fits op number (Read found mark answer) = CanRead op number found.mark
Fits op number (AtThreshold found) = op ≡ SoftFailure
Fits op number (Limit found) = op ≡ SoftFailure
Fits op number (Reserving found slots) = op ≡ SoftFailure
Fits op number (Holding found) = op ≡ SoftFailure
Fits op number Firming = op ≡ SoftFailure
Fits op number Losing = op ≡ SoftFailure
Fits op number (Loosening found mark answer) = CanLoosen op
Fits op number (Loosened found mark answer) = CanLoosen op
Fits op number (Emptied answer) = CanLoosen op

pub record KnowsCost (s : Settings) (call : CallState) (taken : ℕ) (phase : Phase) : Type 0 where
  pub few : taken ≤ per_try call.op * call.lost + depth phase
  pub left : call.lost < s.tries
  pub fits : Fits call.op call.number phase

-- ---- one more step ends the call, or the try

pub ends-any : (s : Settings) (op : Op) (n lost : ℕ) → n ≤ per_try op * lost + 0 → lost < s.tries → suc n ≤ most_steps s op
ends-any s LookUp n lost few left = omega (arith, few)
ends-any s SoftFailure n lost few left = omega (arith, few, left)
ends-any s HardFailure n lost few left = omega (arith, few, left)
ends-any s Success n lost few left = omega (arith, few, left)
ends-any s Release n lost few left = omega (arith, few)

pub ends-read : (s : Settings) (op : Op) (number : ℕ) (mark : Mark) (n lost : ℕ) → CanRead op number mark → n ≤ per_try op * lost + 1 → lost < s.tries
    → suc n ≤ most_steps s op
ends-read s LookUp number mark n lost can few left = absurd can
ends-read s SoftFailure number mark n lost can few left = omega (arith, few, left)
ends-read s HardFailure number mark n lost can few left = omega (arith, few, left)
ends-read s Success number mark n lost can few left = omega (arith, few, left)
ends-read s Release number mark n lost can few left = omega (arith, few)

pub ends-loosen : (s : Settings) (op : Op) (n lost d : ℕ) → CanLoosen op → d ≤ 3 → n ≤ per_try op * lost + d → lost < s.tries → suc n ≤ most_steps s op
ends-loosen s LookUp n lost d can deep few left = absurd can
ends-loosen s SoftFailure n lost d can deep few left = absurd can
ends-loosen s HardFailure n lost d can deep few left = omega (arith, few, left, deep)
ends-loosen s Success n lost d can deep few left = omega (arith, few, left, deep)
ends-loosen s Release n lost d can deep few left = omega (arith, few, deep)

pub ends-soft : (s : Settings) (op : Op) (n lost d : ℕ) → op ≡ SoftFailure → d ≤ 4 → n ≤ per_try op * lost + d → lost < s.tries → suc n ≤ most_steps s op
ends-soft s op n lost d is deep few left =
    let P : Op → Type 0 = λ it. n ≤ per_try it * lost + d in
    let Q : Op → Type 0 = λ it. suc n ≤ most_steps s it in
    let soft : n ≤ 5 * lost + d = subst P is few in
    let short : suc n ≤ 5 * s.tries = omega (arith, soft, left, deep) in
    subst Q (sym is) short

pub loses-soft : (op : Op) (n lost d : ℕ) → op ≡ SoftFailure → d ≤ 4 → n ≤ per_try op * lost + d → suc n ≤ per_try op * (lost + 1) + 0
loses-soft op n lost d is deep few =
    let P : Op → Type 0 = λ it. n ≤ per_try it * lost + d in
    let Q : Op → Type 0 = λ it. suc n ≤ per_try it * (lost + 1) + 0 in
    let soft : n ≤ 5 * lost + d = subst P is few in
    let short : suc n ≤ 5 * (lost + 1) + 0 = omega (arith, soft, deep) in
    subst Q (sym is) short

pub loses-read : (op : Op) (number : ℕ) (mark : Mark) (n lost : ℕ) → CanRead op number mark → (mark ≡ Hard number → ⊥) → n ≤ per_try op * lost + 1
    → suc n ≤ per_try op * (lost + 1) + 0
loses-read LookUp number mark n lost can apart few = absurd can
loses-read SoftFailure number mark n lost can apart few = omega (arith, few)
loses-read HardFailure number mark n lost can apart few = omega (arith, few)
loses-read Success number mark n lost can apart few = omega (arith, few)
loses-read Release number mark n lost can apart few = absurd (apart can)

pub one-more : (k n d : ℕ) → n ≤ k + d → suc n ≤ k + (d + 1)
one-more k n d few = omega (arith, few)

-- a thread's own hard mark still is there
pub own-hard : (number : ℕ) (now found : ServerState) (mark : Mark) → mark ≡ Hard number → IsFoundBy number now found mark → now ≡ found
own-hard number now found (Up count) is by = cc
own-hard number now found (Soft owner) is by = absurd by
own-hard number now found (Hard owner) is by = by.1

-- a call begins
pub cost-begin : (s : Settings) (number : ℕ) (op : Op) (server : ℕ) → IsWithinRanges s → KnowsCost s (begun_by number op server) 0 Start
cost-begin s number op server ranges = record { few = omega arith; left = ranges.tries.0; fits = tt }

-- what is known once so many steps were taken and the last of them was decided
abbrev pub CostAfter : Settings → CallState → ℕ → Decision → Type 0
CostAfter s call taken (Goes lost phase) = KnowsCost s (record call { lost = lost }) taken phase
CostAfter s call taken (Answers answer) = taken ≤ most_steps s call.op

-- the step of a call that took so many, over plain data
