-- Laws of the slots of probers.
use Rattle.std.proofs.Common.{◌≡◌, ℕ, zero, suc, true, false, if◌then◌else◌, List, [], ◌∷◌, Some, None, length, map, cond, count_by, slice_get, slice_set, refl, ap, ◌∙◌, arith}
use Rattle.std.proofs.lemmas.List.{length-set}
use Rattle.std.proofs.lemmas.List.Sums.{sum_by-cons}
use Rattle.tko_prober.specs.declared.delays.Delays.{Delays}
use Rattle.tko_prober.specs.declared.prober.Prober.{Prober}
use Rattle.tko_route.specs.declared.attempt.Attempt.{Attempt}
use Rattle.tko_route.specs.declared.attempt.Attempt.TheVariants as attempt
use Rattle.tko_prober.specs.declared.probers.ProbeSlot.{ProbeSlot}
use Rattle.tko_prober.specs.declared.probers.ProbeSlot.TheVariants.{Quiet, Marked, Probing}
use Rattle.tko_prober.specs.Probers.{ProbersState, begun_slot, is_busy, is_taken, noted, noted_one, prober_in, with_slot}

-- what a slot adds to the number of busy ones
abbrev part : ProbeSlot → ℕ
part slot = cond (is_busy slot) 1 0

begun_one : (delays : Delays) (moment : ℕ) (slot : ProbeSlot) → is_busy (begun_slot delays moment slot) ≡ is_busy slot
begun_one delays moment Quiet = refl
begun_one delays moment Marked = refl
begun_one delays moment (Probing prober) = refl

-- a prober that begins was counted before
pub busy-begun : (delays : Delays) (moment : ℕ) (slots : List ProbeSlot)
    → count_by is_busy (map (begun_slot delays moment) slots) ≡ count_by is_busy slots
busy-begun delays moment [] = refl
busy-begun delays moment (slot ∷ slots) =
    omega (
      arith,
      sum_by-cons part (begun_slot delays moment slot) (map (begun_slot delays moment) slots),
      sum_by-cons part slot slots,
      ap (λ b. cond {A = ℕ} b 1 0) (begun_one delays moment slot),
      busy-begun delays moment slots,
    )

busy-tail : (slot : ProbeSlot) (slots : List ProbeSlot) → count_by is_busy (slot ∷ slots) ≡ 0 → count_by is_busy slots ≡ 0
busy-tail slot slots none = omega (arith, none, sum_by-cons part slot slots)

quiet-head : (slot : ProbeSlot) (slots : List ProbeSlot) → count_by is_busy (slot ∷ slots) ≡ 0 → slot ≡ Quiet
quiet-head Quiet slots none = refl
quiet-head Marked slots none = absurd (omega (arith, none, sum_by-cons part Marked slots))
quiet-head (Probing prober) slots none =
    absurd (omega (arith, none, sum_by-cons part (Probing prober) slots))

-- where no slot is busy, no prober begins
pub begun-quiet : (delays : Delays) (moment : ℕ) (slots : List ProbeSlot) → count_by is_busy slots ≡ 0
    → map (begun_slot delays moment) slots ≡ slots
begun-quiet delays moment [] none = refl
begun-quiet delays moment (slot ∷ slots) none =
    let head : slot ≡ Quiet = quiet-head slot slots none in
    let tail : map (begun_slot delays moment) slots ≡ slots = begun-quiet delays moment slots (busy-tail slot slots none) in
    rw (head, tail) refl

-- nor is there one
pub prober-quiet : (slots : List ProbeSlot) (server : ℕ) → count_by is_busy slots ≡ 0 → prober_in (slice_get slots server) ≡ None
prober-quiet [] server none = refl
prober-quiet (slot ∷ slots) zero none = rw (quiet-head slot slots none) refl
prober-quiet (slot ∷ slots) (suc server) none = prober-quiet slots server (busy-tail slot slots none)

-- a prober that goes back into its own slot leaves the slots as they were
pub set-prober : (slots : List ProbeSlot) (server : ℕ) (prober : Prober) → prober_in (slice_get slots server) ≡ Some prober
    → slice_set slots server (Probing prober) ≡ slots
set-prober [] server prober has = refl
set-prober (Quiet ∷ slots) zero prober has = absurd cc
set-prober (Marked ∷ slots) zero prober has = absurd cc
set-prober (Probing own ∷ slots) zero prober has = cc
set-prober (slot ∷ slots) (suc server) prober has = ap (λ xs. slot ∷ xs) (set-prober slots server prober has)

-- a prober that takes the place of another one
pub prober-set : (slots : List ProbeSlot) (server : ℕ) (own prober : Prober) → prober_in (slice_get slots server) ≡ Some own
    → prober_in (slice_get (slice_set slots server (Probing prober)) server) ≡ Some prober
prober-set [] server own prober has = absurd cc
prober-set (slot ∷ slots) zero own prober has = refl
prober-set (slot ∷ slots) (suc server) own prober has = prober-set slots server own prober has

length-noted_one : (it : Attempt) (probers : ProbersState) → length (noted_one it probers).slots ≡ length probers.slots
length-noted_one (attempt.Skipped server mark) probers = refl
length-noted_one (attempt.Sent server came answer) probers =
    elim (is_taken answer) as (λ taken. length (if taken then with_slot probers server Marked else probers).slots ≡ length probers.slots)
    [ true ↦ length-set probers.slots server Marked | false ↦ refl ]
length-noted_one (attempt.Aborted server) probers = refl
length-noted_one (attempt.Spent server) probers = refl

-- noting a trail leaves a slot for each server
pub length-noted : (trail : List Attempt) (probers : ProbersState) → length (noted trail probers).slots ≡ length probers.slots
length-noted [] probers = refl
length-noted (it ∷ trail) probers = length-noted trail (noted_one it probers) ∙ length-noted_one it probers
