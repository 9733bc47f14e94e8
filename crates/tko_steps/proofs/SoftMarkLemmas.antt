-- Soft marks and the calls that made them: no more of them are loose than slots are held.
use Rattle.std.proofs.Common.{◌≡◌, ℕ, ◌+◌, ◌<◌, ◌≤◌, Bool, true, false, ◌&&◌, cond, List, [], ◌∷◌, length, get_or, set, All, Some, count_by, refl, sym, ap, ◌∙◌, inl, inr, arith, length-set}
use Rattle.std.proofs.lemmas.Bool.{and_parts, cases_Bool}
use Rattle.std.proofs.lemmas.List.Elements.{All-from_get_or, All-head, All-tail}
use Rattle.std.proofs.lemmas.List.Sums.{sum_by-cons}
use Rattle.tko_model.specs.declared.mark.Mark.{Mark}
use Rattle.tko_model.specs.declared.mark.Mark.TheVariants.{Soft}
use Rattle.tko_model.specs.declared.mark.Reply.{Reply}
use Rattle.tko_model.specs.Settings.{Settings}
use Rattle.tko_model.specs.declared.state.ServerState.{ServerState}
use Rattle.tko_model.specs.Groups.{is_in}
use Rattle.tko_model.specs.Tracker.{is_soft, server_at, softs_in}
use Rattle.tko_model.proofs.GroupLemmas.{softs_in-set}
use Rattle.tko_steps.specs.declared.phase.Call.{Call}
use Rattle.tko_steps.specs.declared.phase.Phase.{Phase}
use Rattle.tko_steps.specs.declared.phase.Phase.TheVariants.{Start, Read, AtThreshold, Limit, Reserving, Holding, Firming, Losing, Loosening, Loosened, Emptied}
use Rattle.tko_steps.specs.declared.phase.ThreadState.{ThreadState}
use Rattle.tko_steps.specs.declared.phase.ThreadState.TheVariants.{NotEnrolled, Idle, InCall}
use Rattle.tko_steps.specs.Core.{drawn_number}
use Rattle.tko_steps.specs.Owners.{owner_of, has_number}
use Rattle.tko_steps.specs.Invariant.{IsPhase, IsThread, holds_at, holds_in, is_loose_at, is_loose_in}
use Rattle.tko_steps.proofs.CountLemmas.{bit, unread}
use Rattle.tko_steps.proofs.ThreadLemmas.{OneEach, has_number-from, one-le-count_by}
use Rattle.tko_steps.proofs.KnownLemmas.{IsFreeFor, server-kept}

-- whether a call at this phase stands on a soft mark of its own
abbrev has_soft_at : Phase → Bool
has_soft_at Firming = true
has_soft_at (Loosening found mark answer) = true
has_soft_at (Loosened found mark answer) = true
has_soft_at phase = false

-- whether it is one of this group
abbrev pub has_soft_in : Settings → ℕ → ThreadState → Bool
has_soft_in s group (InCall call phase) = has_soft_at phase && is_in s group call.server
has_soft_in s group state = false

-- the server of such a call is its own soft mark
abbrev pub IsBacked : List ServerState → ThreadState → Type 0
IsBacked servers (InCall call phase) =
    has_soft_at phase ≡ true → (call.server < length servers) × ((server_at servers call.server).mark ≡ Soft call.number)
IsBacked servers state = Unit {0}

IsBacked-phase : (s : Settings) (call : Call) (now : ServerState) (phase : Phase) → IsPhase s call now phase
    → has_soft_at phase ≡ true → now.mark ≡ Soft call.number
IsBacked-phase s call now Start knows e = cc
IsBacked-phase s call now (Read found mark answer) knows e = cc
IsBacked-phase s call now (AtThreshold found) knows e = cc
IsBacked-phase s call now (Limit found) knows e = cc
IsBacked-phase s call now (Reserving found slots) knows e = cc
IsBacked-phase s call now (Holding found) knows e = cc
IsBacked-phase s call now Firming knows e = knows
IsBacked-phase s call now Losing knows e = cc
IsBacked-phase s call now (Loosening found mark answer) knows e = ap (λ (server : ServerState). server.mark) knows.2 ∙ knows.1
IsBacked-phase s call now (Loosened found mark answer) knows e = ap (λ (server : ServerState). server.mark) knows.2 ∙ knows.1
IsBacked-phase s call now (Emptied answer) knows e = cc

pub IsBacked-thread : (s : Settings) (servers : List ServerState) (state : ThreadState) → IsThread s servers state → IsBacked servers state
IsBacked-thread s servers NotEnrolled is = tt
IsBacked-thread s servers (Idle number) is = tt
IsBacked-thread s servers (InCall call phase) is =
    λ e. (is.0, IsBacked-phase s call (server_at servers call.server) phase is.2 e)

-- once the soft mark of one thread is taken away, those of the others are still theirs
IsBacked-others : (servers : List ServerState) (server number : ℕ) (state : ThreadState)
    → (server_at servers server).mark ≡ Soft number → (drawn_number state ≡ Some number → ⊥)
    → IsBacked servers state → IsBacked (set servers server unread) state
IsBacked-others servers server number NotEnrolled mine apart is = tt
IsBacked-others servers server number (Idle own) mine apart is = tt
IsBacked-others servers server number (InCall call phase) mine apart is = λ e.
    let theirs = is e in
    let free : IsFreeFor number (server_at servers server) = λ other owned. let both : Some number ≡ Some other = sym (ap owner_of mine) ∙ owned in cc in
    let kept = server-kept servers server call.server number call.number unread free (λ same. apart (ap Some same)) (ap owner_of theirs.1) in
    (rw length-set theirs.0, ap (λ (at : ServerState). at.mark) kept ∙ theirs.1)

-- no number is two threads'
abbrev AreApart : List ThreadState → Type 0
AreApart threads = (number : ℕ) → count_by (has_number number) threads ≤ 1

AreApart-tail : (state : ThreadState) (threads : List ThreadState) → AreApart (state ∷ threads) → AreApart threads
AreApart-tail state threads apart number =
    omega (arith, apart number, sum_by-cons (λ it. bit (has_number number it)) state threads)

-- the number of the first thread is no other's
AreApart-head : (state : ThreadState) (threads : List ThreadState) (number : ℕ) → AreApart (state ∷ threads)
    → drawn_number state ≡ Some number → (i : ℕ) → i < length threads → drawn_number (get_or threads i NotEnrolled) ≡ Some number → ⊥
AreApart-head state threads number apart named i inside same =
    let first = ap bit (has_number-from state number named) in
    let rest = one-le-count_by (has_number number) threads i NotEnrolled inside (has_number-from (get_or threads i NotEnrolled) number same) in
    omega (arith, apart number, sum_by-cons (λ it. bit (has_number number it)) state threads, first, rest)

module _ (s : Settings) (group : ℕ) where
  softs_in-cleared : (servers : List ServerState) (server number : ℕ) → server < length servers
      → (server_at servers server).mark ≡ Soft number → is_in s group server ≡ true
      → softs_in s group (set servers server unread) + 1 ≡ softs_in s group servers
  softs_in-cleared servers server number inside mine here =
      omega (
        arith,
        softs_in-set s group servers server unread inside,
        ap (λ mark. bit (is_soft mark && is_in s group server)) mine,
        ap bit here,
      )

  -- a thread that stands on no soft mark of the group adds none
  has_soft-none : (state : ThreadState) (threads : List ThreadState) (marks : ℕ) → has_soft_in s group state ≡ false
      → count_by (has_soft_in s group) threads ≤ marks → count_by (has_soft_in s group) (state ∷ threads) ≤ marks
  has_soft-none state threads marks none le =
      omega (arith, sum_by-cons (λ it. bit (has_soft_in s group it)) state threads, ap bit none, le)

  -- so many calls stand on a soft mark of their own in the group, so there are as many soft marks
  pub has_soft-le : (threads : List ThreadState) (servers : List ServerState) → AreApart threads → All (IsBacked servers) threads
      → count_by (has_soft_in s group) threads ≤ softs_in s group servers
  has_soft-le [] servers apart all = omega arith
  has_soft-le (NotEnrolled ∷ threads) servers apart all =
      has_soft-none NotEnrolled threads (softs_in s group servers) refl
      (has_soft-le threads servers (AreApart-tail NotEnrolled threads apart) (All-tail (IsBacked servers) NotEnrolled threads all))
  has_soft-le (Idle number ∷ threads) servers apart all =
      has_soft-none (Idle number) threads (softs_in s group servers) refl
      (has_soft-le threads servers (AreApart-tail (Idle number) threads apart) (All-tail (IsBacked servers) (Idle number) threads all))
  has_soft-le (InCall call phase ∷ threads) servers apart all =
      let state : ThreadState = InCall call phase in
      let rest_apart = AreApart-tail state threads apart in
      let rest = All-tail (IsBacked servers) state threads all in
      elim (cases_Bool (has_soft_in s group state)) [
        | inl has ↦
            let parts = and_parts (has_soft_at phase) (is_in s group call.server) has in
            let mine = All-head (IsBacked servers) state threads all parts.0 in
            let cleared = set servers call.server unread in
            let still : All (IsBacked cleared) threads = All-from_get_or (IsBacked cleared) threads NotEnrolled (λ i inside.
            IsBacked-others servers call.server call.number (get_or threads i NotEnrolled) mine.1
            (AreApart-head state threads call.number apart refl i inside) (rest i NotEnrolled inside)) in
            let fewer = has_soft-le threads cleared rest_apart still in
            omega (
              arith,
              fewer,
              softs_in-cleared servers call.server call.number mine.0 mine.1 parts.1,
              sum_by-cons (λ it. bit (has_soft_in s group it)) state threads,
              ap bit has,
            )
        | inr lacks ↦ has_soft-none state threads (softs_in s group servers) lacks (has_soft-le threads servers rest_apart rest)
      ]

-- a loose mark is one that such a test passes
loose_at-le : (test : Phase → Bool) → test Firming ≡ true
    → ((found : ServerState) (mark : Mark) (answer : Reply) → test (Loosened found mark answer) ≡ true)
    → (phase : Phase) → bit (is_loose_at phase) ≤ bit (test phase)
loose_at-le test firming loosened Start = omega arith
loose_at-le test firming loosened (Read found mark answer) = omega arith
loose_at-le test firming loosened (AtThreshold found) = omega arith
loose_at-le test firming loosened (Limit found) = omega arith
loose_at-le test firming loosened (Reserving found slots) = omega arith
loose_at-le test firming loosened (Holding found) = omega arith
loose_at-le test firming loosened Firming = omega (arith, ap bit firming)
loose_at-le test firming loosened Losing = omega arith
loose_at-le test firming loosened (Loosening found mark answer) = omega arith
loose_at-le test firming loosened (Loosened found mark answer) = omega (arith, ap bit (loosened found mark answer))
loose_at-le test firming loosened (Emptied answer) = omega arith

bit-and : (one other test : Bool) → bit one ≤ bit other → bit (one && test) ≤ bit (other && test)
bit-and false other test le = omega arith
bit-and true false test le = omega (arith, le)
bit-and true true test le = omega arith

pub loose-le : (s : Settings) (group : ℕ) (state : ThreadState) → bit (is_loose_in s group state) ≤ bit (has_soft_in s group state)
loose-le s group NotEnrolled = omega arith
loose-le s group (Idle number) = omega arith
loose-le s group (InCall call phase) =
    bit-and (is_loose_at phase) (has_soft_at phase) (is_in s group call.server)
    (loose_at-le has_soft_at refl (λ found mark answer. refl) phase)

-- a loose mark holds a slot
pub loose-le-holds : (s : Settings) (group : ℕ) (state : ThreadState) → bit (is_loose_in s group state) ≤ bit (holds_in s group state)
loose-le-holds s group NotEnrolled = omega arith
loose-le-holds s group (Idle number) = omega arith
loose-le-holds s group (InCall call phase) =
    bit-and (is_loose_at phase) (holds_at phase) (is_in s group call.server)
    (loose_at-le holds_at refl (λ found mark answer. refl) phase)

at_most_one_bit : (test : Bool) → cond test 1 0 ≤ 1
at_most_one_bit true = omega arith
at_most_one_bit false = omega arith

pub AreApart-each : (threads : List ThreadState) (enrolled : ℕ) → OneEach enrolled threads → AreApart threads
AreApart-each threads enrolled each number = rw (each number) (at_most_one_bit _)
