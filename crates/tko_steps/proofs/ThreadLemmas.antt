-- The numbers of the threads: each was drawn by one thread, and so many threads are enrolled.
use Rattle.std.proofs.Common.{◌≡◌, ℕ, ◌+◌, ◌<◌, ◌≤◌, Bool, true, false, cond, ltb, eqb, List, length, get_or, set, Some, count_by, refl, ap, ⊎_elim, arith, length-set, get_or-set_other}
use Rattle.std.proofs.lemmas.Bool.{cases_eq, eq-eqb, cases_lt}
use Rattle.std.proofs.lemmas.Bool.Decides.{nat_tests}
use Rattle.std.proofs.lemmas.List.{get_or_past}
use Rattle.std.proofs.lemmas.List.Sums.{count_by-le-length}
use Rattle.tko_steps.specs.declared.phase.ThreadState.{ThreadState}
use Rattle.tko_steps.specs.declared.phase.ThreadState.TheVariants.{NotEnrolled, Idle, InCall}
use Rattle.tko_steps.specs.Core.{drawn_number}
use Rattle.tko_steps.specs.Owners.{has_number, is_enrolled}
use Rattle.tko_steps.proofs.CountLemmas.{bit, bit-le-count_by, count_by-set}

pub has_number-from : (state : ThreadState) (number : ℕ) → drawn_number state ≡ Some number → has_number number state ≡ true
has_number-from NotEnrolled number e = cc
has_number-from (Idle own) number e = eq-eqb own number cc
has_number-from (InCall call phase) number e = eq-eqb call.number number cc

-- each number below the count is one thread's, and no other number is any thread's
abbrev pub OneEach : ℕ → List ThreadState → Type 0
OneEach enrolled threads = (number : ℕ) → count_by (has_number number) threads ≡ cond (ltb number enrolled) 1 0

-- a count to which a place that passes adds one
pub one-le-count_by : {X : Type 0} (p : X → Bool) (xs : List X) (i : ℕ) (d : X) → i < length xs → p (get_or xs i d) ≡ true
    → 1 ≤ count_by p xs
one-le-count_by p xs i d inside passes = omega (arith, bit-le-count_by p xs i d inside, ap bit passes)

below_from_bit : (a b : ℕ) → 1 ≤ cond (ltb a b) 1 0 → a < b
below_from_bit a b h = grind (arith, nat_tests)

-- a thread's number is below the count
pub number-lt : (threads : List ThreadState) (enrolled thread number : ℕ) → OneEach enrolled threads → thread < length threads
    → drawn_number (get_or threads thread NotEnrolled) ≡ Some number → number < enrolled
number-lt threads enrolled thread number each inside named =
    let has = has_number-from (get_or threads thread NotEnrolled) number named in
    let one = one-le-count_by (has_number number) threads thread NotEnrolled inside has in
    below_from_bit number enrolled (rw (each number) at one)

-- two places that pass make a count of two
two-le-count_by : {X : Type 0} (p : X → Bool) (xs : List X) (i j : ℕ) (d : X) → p d ≡ false → i < length xs → j < length xs
    → (j ≡ i → ⊥) → p (get_or xs i d) ≡ true → p (get_or xs j d) ≡ true → 2 ≤ count_by p xs
two-le-count_by p xs i j d fails in_i in_j apart one other =
    let still : p (get_or (set xs i d) j d) ≡ true = rw get_or-set_other other in
    let inside : j < length (set xs i d) = rw length-set in_j in
    let rest = one-le-count_by p (set xs i d) j d inside still in
    omega (arith, rest, count_by-set p xs i d d in_i, ap bit one, ap bit fails)

at_most_one : (a b : ℕ) → 2 ≤ cond (ltb a b) 1 0 → ⊥
at_most_one a b h = grind (arith, nat_tests)

-- no two threads have one number
pub number-once : (threads : List ThreadState) (enrolled one other number : ℕ) → OneEach enrolled threads
    → one < length threads → other < length threads
    → drawn_number (get_or threads one NotEnrolled) ≡ Some number → drawn_number (get_or threads other NotEnrolled) ≡ Some number
    → other ≡ one
number-once threads enrolled one other number each in_one in_other named_one named_other =
    ⊎_elim (λ same. same) (λ apart.
    let has_one = has_number-from (get_or threads one NotEnrolled) number named_one in
    let has_other = has_number-from (get_or threads other NotEnrolled) number named_other in
    let two = two-le-count_by (has_number number) threads one other NotEnrolled refl in_one in_other apart has_one has_other in
    absurd (at_most_one number enrolled (rw (each number) at two))) (cases_eq other one)

-- a thread that keeps what is counted leaves the count
pub count_by-set_same : (p : ThreadState → Bool) (threads : List ThreadState) (thread : ℕ) (old new : ThreadState)
    → thread < length threads → get_or threads thread NotEnrolled ≡ old → p new ≡ p old
    → count_by p (set threads thread new) ≡ count_by p threads
count_by-set_same p threads thread old new inside stands same =
    omega (arith, count_by-set p threads thread new NotEnrolled inside, ap (λ state. bit (p state)) stands, ap bit same)

-- a count after one thread has changed
pub count_by-moved : (p : ThreadState → Bool) (threads : List ThreadState) (thread : ℕ) (old new : ThreadState)
    → thread < length threads → get_or threads thread NotEnrolled ≡ old
    → count_by p (set threads thread new) + bit (p old) ≡ count_by p threads + bit (p new)
count_by-moved p threads thread old new inside stands =
    omega (arith, count_by-set p threads thread new NotEnrolled inside, ap (λ state. bit (p state)) stands)

one_more_each : (x n e : ℕ) → x ≡ cond (ltb n e) 1 0 + cond (eqb e n) 1 0 → x ≡ cond (ltb n (e + 1)) 1 0
one_more_each x n e h = grind (arith, nat_tests)

-- the thread that draws the count gets a number that no thread has
pub OneEach-enrol : (threads : List ThreadState) (enrolled thread : ℕ) → OneEach enrolled threads → thread < length threads
    → get_or threads thread NotEnrolled ≡ NotEnrolled → OneEach (enrolled + 1) (set threads thread (Idle enrolled))
OneEach-enrol threads enrolled thread each inside stands number =
    let has = has_number number in
    let step = count_by-set has threads thread (Idle enrolled) NotEnrolled inside in
    let none : bit (has (get_or threads thread NotEnrolled)) ≡ 0 = ap (λ state. bit (has state)) stands in
    one_more_each _ number enrolled (omega (arith, step, none, each number))

pub count_by-enrol : (threads : List ThreadState) (thread number : ℕ) → thread < length threads
    → get_or threads thread NotEnrolled ≡ NotEnrolled
    → count_by is_enrolled (set threads thread (Idle number)) ≡ count_by is_enrolled threads + 1
count_by-enrol threads thread number inside stands =
    let none : bit (is_enrolled (get_or threads thread NotEnrolled)) ≡ 0 = ap (λ state. bit (is_enrolled state)) stands in
    omega (arith, count_by-set is_enrolled threads thread (Idle number) NotEnrolled inside, none)

-- there is room for the number of a thread that isn't enrolled
pub enrolled-lt : (threads : List ThreadState) (thread : ℕ) → thread < length threads
    → get_or threads thread NotEnrolled ≡ NotEnrolled → count_by is_enrolled threads < length threads
enrolled-lt threads thread inside stands =
    let most = count_by-le-length is_enrolled (set threads thread (Idle 0)) in
    omega (arith, most, count_by-enrol threads thread 0 inside stands, length-set threads thread (Idle 0))

-- a thread that has a number is there
pub number-inside : (threads : List ThreadState) (thread number : ℕ)
    → drawn_number (get_or threads thread NotEnrolled) ≡ Some number → thread < length threads
number-inside threads thread number named =
    ⊎_elim (λ inside. inside)
    (λ past. let e = ap drawn_number (get_or_past threads thread NotEnrolled past) in cc)
    (cases_lt thread (length threads))
