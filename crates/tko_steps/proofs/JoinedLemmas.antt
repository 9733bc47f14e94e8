-- What holds of the core over lists of threads that were joined: it speaks of the threads by counts and of each alone, so
-- their order does not matter, and a step of one thread replaces that one.
use Rattle.std.proofs.Common.{◌≡◌, ℕ, ◌+◌, ◌<◌, List, [], ◌∷◌, ◌++◌, length, get_or, set, refl, sym, ap, ◌∙◌, subst, arith}
use Rattle.std.specs.List.Sorted.{IsPermutation}
use Rattle.std.proofs.lemmas.List.Sorted.{All-permutation, length_permutation, sum_by-IsPermutation}
use Rattle.tko_model.specs.declared.mark.Op.{Op}
use Rattle.tko_model.specs.Settings.{Settings}
use Rattle.tko_model.specs.Tracker.{server_at}
use Rattle.tko_steps.specs.declared.phase.Call.{Call}
use Rattle.tko_steps.specs.declared.phase.Phase.{Phase}
use Rattle.tko_steps.specs.declared.phase.Phase.TheVariants.{Start}
use Rattle.tko_steps.specs.declared.phase.ThreadState.{ThreadState}
use Rattle.tko_steps.specs.declared.phase.ThreadState.TheVariants.{NotEnrolled, Idle, InCall}
use Rattle.tko_steps.specs.Core.{CoreState, Shared, shared_after, slots_at, word_at}
use Rattle.tko_steps.specs.StepNeeds.{CanAct}
use Rattle.tko_steps.specs.Owners.{has_number, is_enrolled}
use Rattle.tko_steps.specs.Invariant.{IsCore, IsThread, holds_in, is_loose_in}
use Rattle.tko_steps.specs.Steps.{after_first_look, begun_by, place_of, thread_after}
use Rattle.tko_steps.specs.Table.{action_of}
use Rattle.tko_steps.proofs.CountLemmas.{bit}
use Rattle.tko_steps.proofs.PhaseStepLemmas.{IsCore-after_act, knows_at}
use Rattle.tko_steps.proofs.BeginLemmas.{IsCore-after_begin, IsCore-after_enrol}
use Rattle.tko_steps.proofs.RoomLemmas.{CanAct-at}

-- a core of these threads
abbrev pub core_of : Settings → Shared → List ThreadState → CoreState
core_of s shared threads = record { settings = s; shared = shared; threads = threads }

-- ---- any order

pub core-permuted : (s : Settings) (shared : Shared) (threads others : List ThreadState) → IsPermutation threads others
    → IsCore (core_of s shared threads) → IsCore (core_of s shared others)
core-permuted s shared threads others same is =
    record {
      settings = is.settings;
      count = is.count;
      fit = is.fit;
      threads = length_permutation threads others same ∙ is.threads;
      enrolled = sum_by-IsPermutation (λ it. bit (is_enrolled it)) threads others same ∙ is.enrolled;
      numbers = λ number. sum_by-IsPermutation (λ it. bit (has_number number it)) threads others same ∙ is.numbers number;
      owners = is.owners;
      calls = All-permutation (IsThread s shared.servers) threads others same is.calls;
      soft_words = is.soft_words;
      counts = λ group below.
          let was = is.counts group below in
          record {
            held = sum_by-IsPermutation (λ it. bit (holds_in s group it)) threads others same ∙ was.held;
            firm = was.firm
                ∙ ap (λ n. (slots_at shared.slots group).firm + n)
                (sym (sum_by-IsPermutation (λ it. bit (is_loose_in s group it)) threads others same));
            room = was.room;
          };
    }

-- ---- one thread among the others

-- this thread between the others
abbrev pub among : List ThreadState → ThreadState → List ThreadState → List ThreadState
among before state after = before ++ state ∷ after

at-among : (before : List ThreadState) (state : ThreadState) (after : List ThreadState)
    → get_or (among before state after) (length before) NotEnrolled ≡ state
at-among [] state after = refl
at-among (other ∷ before) state after = at-among before state after

inside-among : (before : List ThreadState) (state : ThreadState) (after : List ThreadState) → length before < length (among before state after)
inside-among [] state after = omega arith
inside-among (other ∷ before) state after = let less = inside-among before state after in omega (arith, less)

set-among : (before : List ThreadState) (old new : ThreadState) (after : List ThreadState)
    → set (among before old after) (length before) new ≡ among before new after
set-among [] old new after = refl
set-among (other ∷ before) old new after = ap (λ rest. other ∷ rest) (set-among before old new after)

module _ (s : Settings) (shared : Shared) (before after : List ThreadState) where
  -- what a call of this thread knows
  pub core-knows : (call : Call) (phase : Phase) → IsCore (core_of s shared (among before (InCall call phase) after))
      → IsThread s shared.servers (InCall call phase)
  core-knows call phase is =
      let threads = among before (InCall call phase) after in
      knows_at (core_of s shared threads) (length before) call is (inside-among before (InCall call phase) after) phase
      (at-among before (InCall call phase) after)

  -- what its step on the word needs
  pub core-can_act : (call : Call) (phase : Phase) → IsCore (core_of s shared (among before (InCall call phase) after))
      → CanAct s shared call.server (action_of call.number phase)
  core-can_act call phase is =
      let threads = among before (InCall call phase) after in
      CanAct-at (core_of s shared threads) (length before) call is (inside-among before (InCall call phase) after) phase
      (at-among before (InCall call phase) after)

  -- the step of a call, of each kind
  pub core-act : (call : Call) (phase : Phase) → IsCore (core_of s shared (among before (InCall call phase) after))
      → (let act = action_of call.number phase in
      IsCore (core_of s (shared_after s shared call.server act)
      (among before (thread_after s call phase (word_at shared (place_of s call.server act))) after)))
  core-act call phase is =
      let old : ThreadState = InCall call phase in
      let act = action_of call.number phase in
      let new = thread_after s call phase (word_at shared (place_of s call.server act)) in
      let P : List ThreadState → Type 0 = λ threads. IsCore (core_of s (shared_after s shared call.server act) threads) in
      subst P (set-among before old new after)
      (IsCore-after_act (core_of s shared (among before old after)) (length before) call is (inside-among before old after) phase (at-among before old after))

  -- the begin of a call
  pub core-begin : (number : ℕ) (op : Op) (server : ℕ) → server < length shared.servers
      → IsCore (core_of s shared (among before (Idle number) after))
      → IsCore (core_of s shared (among before (InCall (begun_by number op server) Start) after))
  core-begin number op server there is =
      let old : ThreadState = Idle number in
      let new : ThreadState = InCall (begun_by number op server) Start in
      let P : List ThreadState → Type 0 = λ threads. IsCore (core_of s shared threads) in
      subst P (set-among before old new after)
      (IsCore-after_begin (core_of s shared (among before old after)) (length before) number op server is (inside-among before old after)
      (at-among before old after) there)

  -- the begin of a call and its first look as one step
  pub core-first_look : (number : ℕ) (op : Op) (server : ℕ) → server < length shared.servers
      → IsCore (core_of s shared (among before (Idle number) after))
      → IsCore (core_of s shared (among before (after_first_look s (Idle number) op server (server_at shared.servers server)) after))
  core-first_look number op server there is = core-act (begun_by number op server) Start (core-begin number op server there is)

  -- an enrolment
  pub core-enrol : IsCore (core_of s shared (among before NotEnrolled after))
      → IsCore (core_of s (record shared { enrolled = shared.enrolled + 1 }) (among before (Idle shared.enrolled) after))
  core-enrol is =
      let new : ThreadState = Idle shared.enrolled in
      let P : List ThreadState → Type 0 = λ threads. IsCore (core_of s (record shared { enrolled = shared.enrolled + 1 }) threads) in
      subst P (set-among before NotEnrolled new after)
      (IsCore-after_enrol (core_of s shared (among before NotEnrolled after)) (length before) is (inside-among before NotEnrolled after)
      (at-among before NotEnrolled after))
