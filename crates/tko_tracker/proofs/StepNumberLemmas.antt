-- Numbers of steps: what a lost try, and one more step, leave of them; and words that may be
-- written.
use Rattle.std.proofs.Common.{◌≡◌, ℕ, ◌+◌, ◌-◌, ◌*◌, ◌<◌, ◌≤◌, true, refl, sym, subst, arith}
use Rattle.tko_model.specs.declared.mark.Mark.{Mark}
use Rattle.tko_model.specs.declared.mark.Mark.TheVariants.{Up, Soft, Hard}
use Rattle.tko_model.specs.declared.mark.Op.{Op}
use Rattle.tko_model.specs.declared.mark.Op.TheVariants.{LookUp, SoftFailure, HardFailure, Success}
use Rattle.tko_model.specs.declared.mark.Op.TheVariants.{Release}
use Rattle.tko_model.specs.declared.mark.Reply.TheVariants as reply
use Rattle.tko_model.specs.Settings.{Settings}
use Rattle.tko_model.specs.declared.state.ServerState.{ServerState}
use Rattle.tko_model.specs.Ranges.{IsWithinRanges}
use Rattle.tko_model.specs.Tracker.{IsFit}
use Rattle.tko_word.specs.Words.{IsMark, IsMarkOf}
use Rattle.tko_steps.specs.declared.phase.Phase.{Phase}
use Rattle.tko_steps.specs.declared.phase.Phase.TheVariants.{Start, Read, AtThreshold, Limit}
use Rattle.tko_steps.specs.declared.phase.Phase.TheVariants.{Reserving, Holding, Firming, Losing}
use Rattle.tko_steps.specs.declared.phase.Phase.TheVariants.{Loosening, Loosened, Emptied}
use Rattle.tko_steps.specs.declared.table.Observed.TheVariants as seen
use Rattle.tko_steps.specs.Cost.{most_steps}
use Rattle.tko_steps.specs.Steps.{is_marked_state}
use Rattle.tko_steps.proofs.CostLemmas.{depth, per_try}
use Rattle.tko_steps.proofs.StartLemmas.{CanLoosen}
use Rattle.tko_table.specs.Steps.{IsSound, IsWritable}
use Rattle.tko_tracker.specs.Calls.{can_answer}
use Rattle.tko_tracker.proofs.KnowsLemmas.{CanExchange}

-- ---- numbers of steps

pub short-start : (s : Settings) (op : Op) (first steps lost : ℕ)
    → steps ≤ first + (per_try op * lost + 0) → lost < s.tries → steps + 1 ≤ first + most_steps s op
short-start s LookUp first steps lost few less = omega (arith, few)
short-start s SoftFailure first steps lost few less = omega (arith, few, less)
short-start s HardFailure first steps lost few less = omega (arith, few, less)
short-start s Success first steps lost few less = omega (arith, few, less)
short-start s Release first steps lost few less = omega (arith, few)

pub short-read : (s : Settings) (op : Op) (mark : Mark) (first steps lost : ℕ) → CanExchange op mark
    → steps ≤ first + (per_try op * lost + 1) → lost < s.tries
    → steps + 1 ≤ first + most_steps s op
short-read s LookUp mark first steps lost can few less = absurd can
short-read s SoftFailure mark first steps lost can few less = omega (arith, few, less)
short-read s HardFailure mark first steps lost can few less = omega (arith, few, less)
short-read s Success mark first steps lost can few less = omega (arith, few, less)
short-read s Release mark first steps lost can few less = omega (arith, few)

pub short-give : (s : Settings) (op : Op) (first steps lost : ℕ) → CanLoosen op
    → steps ≤ first + (per_try op * lost + 3) → lost < s.tries
    → steps + 1 ≤ first + most_steps s op
short-give s LookUp first steps lost can few less = absurd can
short-give s SoftFailure first steps lost can few less = absurd can
short-give s HardFailure first steps lost can few less = omega (arith, few, less)
short-give s Success first steps lost can few less = omega (arith, few, less)
short-give s Release first steps lost can few less = omega (arith, few)

pub short-soft : (s : Settings) (op : Op) (first steps lost d : ℕ) → op ≡ SoftFailure → d ≤ 4
    → steps ≤ first + (per_try op * lost + d) → lost < s.tries
    → steps + 1 ≤ first + most_steps s op
short-soft s op first steps lost d is deep few less =
    let P : Op → Type 0 = λ it. steps ≤ first + (per_try it * lost + d) in
    let Q : Op → Type 0 = λ it. steps + 1 ≤ first + most_steps s it in
    let soft : steps ≤ first + (5 * lost + d) = subst P is few in
    let short : steps + 1 ≤ first + 5 * s.tries = omega (arith, soft, less, deep) in
    subst Q (sym is) short

-- one more lost try
pub more-soft : (op : Op) (first steps lost d : ℕ) → op ≡ SoftFailure → d ≤ 4
    → steps ≤ first + (per_try op * lost + d)
    → steps + 1 ≤ first + (per_try op * (lost + 1) + 0)
more-soft op first steps lost d is deep few =
    let P : Op → Type 0 = λ it. steps ≤ first + (per_try it * lost + d) in
    let Q : Op → Type 0 = λ it. steps + 1 ≤ first + (per_try it * (lost + 1) + 0) in
    let soft : steps ≤ first + (5 * lost + d) = subst P is few in
    let short : steps + 1 ≤ first + (5 * (lost + 1) + 0) = omega (arith, soft, deep) in
    subst Q (sym is) short

pub more-read : (op : Op) (mark : Mark) (first steps lost : ℕ) → CanExchange op mark
    → (is_marked_state mark ≡ true → ⊥)
    → steps ≤ first + (per_try op * lost + 1) → steps + 1 ≤ first + (per_try op * (lost + 1) + 0)
more-read LookUp mark first steps lost can apart few = absurd can
more-read SoftFailure mark first steps lost can apart few = omega (arith, few)
more-read HardFailure mark first steps lost can apart few = omega (arith, few)
more-read Success mark first steps lost can apart few = omega (arith, few)
more-read Release mark first steps lost can apart few = absurd (apart can)

-- an exchange that may be lost is one of an operation that may then be contended
pub contends : (op : Op) (mark : Mark) → CanExchange op mark → (is_marked_state mark ≡ true → ⊥)
    → can_answer op reply.Contended ≡ true
contends LookUp mark can apart = absurd can
contends SoftFailure mark can apart = refl
contends HardFailure mark can apart = refl
contends Success mark can apart = refl
contends Release mark can apart = absurd (apart can)

pub one-deeper : (k first steps d : ℕ) → steps ≤ first + (k + d) → steps + 1 ≤ first + (k + (d + 1))
one-deeper k first steps d few = omega (arith, few)

pub left-deeper : (tries lost d next : ℕ) → lost < tries → next ≡ d + 1 → d ≤ 3
    → 5 * (tries - lost) - next < 5 * (tries - lost) - d
left-deeper tries lost d next less is deep = omega (arith, less, is, deep)

pub left-lost : (tries lost d : ℕ) → lost < tries → d ≤ 4
    → 5 * (tries - (lost + 1)) - 0 < 5 * (tries - lost) - d
left-lost tries lost d less deep = omega (arith, less, deep)

pub deep : (phase : Phase) → depth phase ≤ 4
deep Start = omega arith
deep (Read found mark answer) = omega arith
deep (AtThreshold found) = omega arith
deep (Limit found) = omega arith
deep (Reserving found slots) = omega arith
deep (Holding found) = omega arith
deep Firming = omega arith
deep Losing = omega arith
deep (Loosening found mark answer) = omega arith
deep (Loosened found mark answer) = omega arith
deep (Emptied answer) = omega arith

-- ---- words

mark-in : (s : Settings) (mark : Mark) → IsWithinRanges s → IsMarkOf s mark → IsMark mark
mark-in s (Up count) ranges is = omega (arith, is, ranges.failures.1)
mark-in s (Soft owner) ranges is = omega (arith, is, ranges.threads.1)
mark-in s (Hard owner) ranges is = omega (arith, is, ranges.threads.1)

fit-below : (s : Settings) (mark : Mark) (stamp : ℕ) → IsFit s mark stamp
    → stamp + 1 < 2251799813685248
fit-below s (Up count) stamp fit = omega (arith, fit.1)
fit-below s (Soft owner) stamp fit = omega (arith, fit)
fit-below s (Hard owner) stamp fit = omega (arith, fit)

pub writable : (s : Settings) (server : ℕ) (found : ServerState) (mark : Mark) → IsWithinRanges s
    → IsSound s server (seen.Server found) → IsMarkOf s mark → IsWritable found mark
writable s server found mark ranges sound is =
    record {
      expected = mark-in s found.mark ranges sound.0;
      new = mark-in s mark ranges is;
      below = fit-below s found.mark found.stamp sound.1;
    }
