-- What holds of the core in each state of each run.
use Rattle.std.specs.Prelude.{◌≡◌, ℕ, ◌+◌, ◌<◌, ◌≤◌, Bool, true, false, ◌&&◌, nat_lt, if◌then◌else◌, List, length, count_by, All, None}
use Rattle.tko_model.specs.declared.mark.Mark.{Mark}
use Rattle.tko_model.specs.declared.mark.Mark.TheVariants.{Up, Soft, Hard}
use Rattle.tko_model.specs.Settings.{Settings}
use Rattle.tko_model.specs.declared.state.ServerState.{ServerState}
use Rattle.tko_model.specs.Limits.{worn}
use Rattle.tko_model.specs.Ranges.{IsWithinRanges}
use Rattle.tko_model.specs.Groups.{groups, is_in, limit_at, limit_of}
use Rattle.tko_model.specs.Tracker.{IsFit, server_at, softs_in}
use Rattle.tko_steps.specs.declared.phase.Call.{Call}
use Rattle.tko_steps.specs.declared.phase.Phase.{Phase}
use Rattle.tko_steps.specs.declared.phase.Phase.TheVariants.{Start, Read, AtThreshold, Limit, Reserving, Holding, Firming, Losing, Loosening, Loosened, Emptied}
use Rattle.tko_steps.specs.declared.phase.ThreadState.{ThreadState}
use Rattle.tko_steps.specs.declared.phase.ThreadState.TheVariants.{InCall}
use Rattle.tko_steps.specs.Core.{CoreState, abstract_of, slots_at}
use Rattle.tko_steps.specs.Owners.{IsOwner, owner_of, has_number, is_enrolled}

-- whether a call at this phase holds a slot
abbrev pub holds_at : Phase → Bool
holds_at (Holding found) = true
holds_at Firming = true
holds_at Losing = true
holds_at (Loosened found mark answer) = true
holds_at (Emptied answer) = true
holds_at phase = false

abbrev pub holds : ThreadState → Bool
holds (InCall call phase) = holds_at phase
holds state = false

-- whether a thread holds a slot of this group
abbrev pub holds_in : Settings → ℕ → ThreadState → Bool
holds_in s group (InCall call phase) = holds_at phase && is_in s group call.server
holds_in s group state = false

-- whether a call at this phase has a soft mark that is not settled
abbrev pub is_loose_at : Phase → Bool
is_loose_at Firming = true
is_loose_at (Loosened found mark answer) = true
is_loose_at phase = false

abbrev pub is_loose : ThreadState → Bool
is_loose (InCall call phase) = is_loose_at phase
is_loose state = false

-- whether a thread has such a mark in this group
abbrev pub is_loose_in : Settings → ℕ → ThreadState → Bool
is_loose_in s group (InCall call phase) = is_loose_at phase && is_in s group call.server
is_loose_in s group state = false

-- a mark that the thread with this number may write: its own hard mark, or none
abbrev pub IsOwnOrUp : ℕ → Mark → Type 0
IsOwnOrUp number (Up count) = Unit {0}
IsOwnOrUp number (Soft owner) = ⊥
IsOwnOrUp number (Hard owner) = owner ≡ number

-- the mark that a write puts in place fits the stamp that it gives
pub record IsWrite (s : Settings) (number : ℕ) (found : ServerState) (mark : Mark) : Type 0 where
  pub fit : IsFit s mark (found.stamp + 1)
  pub own : IsOwnOrUp number mark

-- what was found unmarked, and is not worn
abbrev pub IsUnmarkedUnworn : ServerState → Type 0
IsUnmarkedUnworn found = (owner_of found.mark ≡ None) × (found.stamp < worn)

-- what a write found: an unmarked server, or the thread's own hard mark, which still stands
abbrev pub IsFoundBy : ℕ → ServerState → ServerState → Mark → Type 0
IsFoundBy number now found (Up count) = found.stamp < worn
IsFoundBy number now found (Soft owner) = ⊥
IsFoundBy number now found (Hard owner) = (owner ≡ number) × (now ≡ found)

-- what a call at this phase knows, where its server now has this mark and stamp
abbrev pub IsPhase : Settings → Call → ServerState → Phase → Type 0
IsPhase s call now Start = Unit {0}
IsPhase s call now (Read found mark answer) =
    IsWrite s call.number found mark × IsFoundBy call.number now found found.mark
IsPhase s call now (AtThreshold found) = IsUnmarkedUnworn found
IsPhase s call now (Limit found) = IsUnmarkedUnworn found
IsPhase s call now (Reserving found slots) =
    IsUnmarkedUnworn found × (slots.firm + slots.held < limit_at s call.server)
IsPhase s call now (Holding found) = IsUnmarkedUnworn found
IsPhase s call now Firming = now.mark ≡ Soft call.number
IsPhase s call now Losing = Unit {0}
IsPhase s call now (Loosening found mark answer) =
    IsWrite s call.number found mark × (found.mark ≡ Soft call.number) × (now ≡ found)
IsPhase s call now (Loosened found mark answer) =
    IsWrite s call.number found mark × (found.mark ≡ Soft call.number) × (now ≡ found)
IsPhase s call now (Emptied answer) = Unit {0}

-- a call is on a server that is there, and has a try left
abbrev pub IsThread : Settings → List ServerState → ThreadState → Type 0
IsThread s servers (InCall call phase) =
    (call.server < length servers)
    × (call.lost < s.tries)
    × IsPhase s call (server_at servers call.server) phase
IsThread s servers state = Unit {0}

-- the counts of the soft word of a group
abbrev pub firm_at : CoreState → ℕ → ℕ
firm_at core group = (slots_at core.shared.slots group).firm

abbrev pub held_at : CoreState → ℕ → ℕ
held_at core group = (slots_at core.shared.slots group).held

-- what the soft word of a group counts
pub record IsGroup (core : CoreState) (group : ℕ) : Type 0 where
  -- each slot that is held is held by one call
  pub held : count_by (holds_in core.settings group) core.threads ≡ held_at core group
  -- each soft mark is settled, or is the loose mark of one call
  pub firm :
      softs_in core.settings group (abstract_of core)
      ≡ firm_at core group + count_by (is_loose_in core.settings group) core.threads
  pub room : firm_at core group + held_at core group ≤ limit_of core.settings group

pub record IsCore (core : CoreState) : Type 0 where
  pub settings : IsWithinRanges core.settings
  pub count : length (abstract_of core) ≡ core.settings.servers
  pub fit : All (λ server. IsFit core.settings server.mark server.stamp) (abstract_of core)
  pub threads : length core.threads ≡ core.settings.threads
  -- the enrolment counter counts the enrolled threads, and each number below it is one thread's
  pub enrolled : count_by is_enrolled core.threads ≡ core.shared.enrolled
  pub numbers : (number : ℕ) →
      count_by (has_number number) core.threads
      ≡ (if nat_lt number core.shared.enrolled then 1 else 0)
  -- marks name numbers that were drawn
  pub owners : (server number : ℕ) →
      IsOwner (abstract_of core) number server → number < core.shared.enrolled
  pub calls : All (IsThread core.settings (abstract_of core)) core.threads
  pub soft_words : length core.shared.slots ≡ groups core.settings
  pub counts : (group : ℕ) → group < groups core.settings → IsGroup core group
