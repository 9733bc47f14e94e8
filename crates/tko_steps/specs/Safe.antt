-- What holds in each state of each run: the soft word of each group counts the soft marks and the
-- slots that calls hold there, never past the group's limit, and each thread owns exactly the
-- servers whose marks name it.
use Rattle.std.specs.Prelude.{◌≡◌, ◌↔◌, ℕ, ◌+◌, ◌<◌, ◌≤◌, true, nat_lt, if◌then◌else◌, List, count_by, Some}
use Rattle.tko_model.specs.Settings.{Settings}
use Rattle.tko_model.specs.declared.state.ServerState.{ServerState}
use Rattle.tko_model.specs.Groups.{groups, limit_of}
use Rattle.tko_model.specs.Tracker.{softs_in}
use Rattle.tko_steps.specs.Core.{CoreState, abstract_of, drawn_number, thread_at}
use Rattle.tko_steps.specs.Owners.{IsOwner, has_number}
use Rattle.tko_steps.specs.Invariant.{firm_at, held_at, holds_in, is_loose_in}
use Rattle.tko_steps.specs.Runs.{World, owns_in_past}

-- the soft word and the soft marks of a group
pub record CountsSlots (core : CoreState) (group : ℕ) : Type 0 where
  -- settled marks are soft marks, and each other soft mark has a held slot
  pub settled : firm_at core group ≤ softs_in core.settings group (abstract_of core)
  pub marked : softs_in core.settings group (abstract_of core)
      ≤ firm_at core group + held_at core group
  pub limit : firm_at core group + held_at core group ≤ limit_of core.settings group
  -- each slot is held by one call, and each soft mark that isn't settled is the loose mark of one
  pub held : held_at core group ≡ count_by (holds_in core.settings group) core.threads
  pub loose :
      softs_in core.settings group (abstract_of core)
      ≡ firm_at core group + count_by (is_loose_in core.settings group) core.threads

-- the same of each group
abbrev pub CountSlots : CoreState → Type 0
CountSlots core = (group : ℕ) → group < groups core.settings → CountsSlots core group

-- no group has more soft marks than its limit allows
abbrev pub AreWithinLimits : Settings → List ServerState → Type 0
AreWithinLimits s servers =
    (group : ℕ) → group < groups s → softs_in s group servers ≤ limit_of s group

-- each number below the enrolment word is the number of one thread, and no other is of any
abbrev pub HasDistinctNumbers : CoreState → Type 0
HasDistinctNumbers core =
    (number : ℕ) →
    count_by (has_number number) core.threads
    ≡ (if nat_lt number core.shared.enrolled then 1 else 0)

-- the thread of this place is responsible for the server: the server's mark names its number
pub record IsResponsible (core : CoreState) (thread server : ℕ) : Type 0 where
  pub number : ℕ
  pub enrolled : drawn_number (thread_at core thread) ≡ Some number
  pub marked : IsOwner (abstract_of core) number server

-- a thread owns exactly the servers that it is responsible for
abbrev pub OwnsItsMarks : World → Type 0
OwnsItsMarks w =
    (thread server : ℕ) → (owns_in_past w.past thread server ≡ true)
    ↔ IsResponsible w.core thread server

-- no two threads are responsible for one server
abbrev pub HasOneResponsible : CoreState → Type 0
HasOneResponsible core =
    (server one other : ℕ) →
    IsResponsible core one server → IsResponsible core other server → one ≡ other
