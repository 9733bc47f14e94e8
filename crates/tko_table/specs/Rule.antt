-- The rule of the words: what holds of them and of the passes of all seats between any two steps.
use Rattle.std.specs.Prelude.{◌≡◌, ℕ, ◌+◌, Bool, if◌then◌else◌, List, [], ◌∷◌, ◌++◌, map, drop, take, slice_index, All, true, ◌<◌}
use Rattle.tko_model.specs.declared.mark.Mark.{Mark}
use Rattle.tko_model.specs.declared.mark.Mark.TheVariants.{Soft}
use Rattle.tko_model.specs.declared.mark.Reply.{Reply}
use Rattle.tko_model.specs.declared.mark.Reply.TheVariants.{Full, TookSoft}
use Rattle.tko_model.specs.Settings.{Settings}
use Rattle.tko_model.specs.declared.state.ServerState.{ServerState}
use Rattle.tko_model.specs.Tracker.{becomes, stays, transition}
use Rattle.tko_word.specs.Words.{IsWord, server_in}
use Rattle.tko_steps.specs.declared.phase.Call.{Call}
use Rattle.tko_steps.specs.declared.phase.Phase.{Phase}
use Rattle.tko_steps.specs.declared.phase.Phase.TheVariants.{Read, AtThreshold, Limit, Reserving, Holding, Loosening, Loosened, Emptied}
use Rattle.tko_steps.specs.declared.phase.ThreadState.{ThreadState}
use Rattle.tko_steps.specs.declared.phase.ThreadState.TheVariants.{InCall}
use Rattle.tko_steps.specs.Core.{CoreState, Shared, opened_words, slots_in}
use Rattle.tko_steps.specs.Invariant.{IsCore}
use Rattle.tko_table.specs.declared.pass.Change.{Change}
use Rattle.tko_table.specs.declared.pass.PassView.{PassView}
use Rattle.tko_table.specs.History.{Begins, Replays, is_change}
use Rattle.tko_table.specs.Passes.{PassOwnsItsMarks, HasItsChanges}

-- the words in their order: the enrolment word, the health word of each server, the soft word of
-- each group
abbrev pub enrolment_place : ℕ
enrolment_place = 0

abbrev pub health_place : ℕ → ℕ
health_place server = server + 1

abbrev pub soft_place : Settings → ℕ → ℕ
soft_place s group = s.servers + 1 + group

abbrev pub health_in : Settings → List ℕ → List ℕ
health_in s words = take s.servers (drop 1 words)

abbrev pub soft_in : Settings → List ℕ → List ℕ
soft_in s words = drop (s.servers + 1) words

-- what the words hold
abbrev pub shared_in : Settings → List ℕ → Shared
shared_in s words =
    record {
      servers = map server_in (health_in s words);
      slots = map slots_in (soft_in s words);
      enrolled = slice_index words enrolment_place;
    }

-- the words as they open: each server up, no slot taken, no thread enrolled
pub record IsOpened (s : Settings) (words : List ℕ) : Type 0 where
  pub valid : All IsWord (health_in s words)
  pub shared : shared_in s words ≡ opened_words s

-- the passes of all seats
abbrev pub joined_passes : List (List PassView) → List PassView
joined_passes [] = []
joined_passes (view ∷ views) = view ++ joined_passes views

abbrev pub states_of : List PassView → List ThreadState
states_of passes = map (λ pass. pass.state) passes

-- the words and the passes are this state of the core
abbrev pub core_in : Settings → List ℕ → List PassView → CoreState
core_in s words passes =
    record { settings = s; shared = shared_in s words; threads = states_of passes }

-- the words and the passes are a state of the core that meets the core's invariant
pub record IsCoreHalf (s : Settings) (words : List ℕ) (passes : List PassView) : Type 0 where
  pub valid : All IsWord (health_in s words)
  pub core : IsCore (core_in s words passes)
  pub owned : All (PassOwnsItsMarks (shared_in s words).servers) passes
  pub settings : All (λ pass. pass.settings ≡ s) passes

-- on the server as it was found, the operation puts this mark there, whatever room there is
abbrev pub Puts : Settings → Call → ServerState → Mark → Reply → Type 0
Puts s call found mark answer =
    (room : Bool) →
    transition s room call.number call.op found.mark found.stamp ≡ becomes mark answer

-- on the server as it was found, the operation makes a soft mark, where there is room
abbrev pub MarksSoft : Settings → Call → ServerState → Type 0
MarksSoft s call found =
    (room : Bool) →
    transition s room call.number call.op found.mark found.stamp
    ≡ (if room then becomes (Soft call.number) TookSoft else stays Full)

-- what a call at this phase is about to do is what the sequential tracker does
abbrev pub IsPlannedAt : Settings → Call → Phase → Type 0
IsPlannedAt s call (Read found mark answer) = Puts s call found mark answer
IsPlannedAt s call (AtThreshold found) = MarksSoft s call found
IsPlannedAt s call (Limit found) = MarksSoft s call found
IsPlannedAt s call (Reserving found slots) = MarksSoft s call found
IsPlannedAt s call (Holding found) = MarksSoft s call found
IsPlannedAt s call (Loosening found mark answer) = Puts s call found mark answer
IsPlannedAt s call (Loosened found mark answer) = Puts s call found mark answer
IsPlannedAt s call (Emptied answer) = is_change answer ≡ true
IsPlannedAt s call phase = Unit {0}

abbrev pub IsPlanned : Settings → ThreadState → Type 0
IsPlanned s (InCall call phase) = IsPlannedAt s call phase
IsPlanned s state = Unit {0}

-- the servers are the replay of the history, and each pass has seen a beginning of it; each change
-- is by a thread that drew a number, whose pass tells its own
pub record IsToldHalf
    (s : Settings) (shared : Shared) (passes : List PassView) (history : List Change) : Type 0
  where
    pub replays : Replays s history shared.servers
    pub seen : All (λ pass. Begins pass.seen history) passes
    pub planned : All (λ pass. IsPlanned s pass.state) passes
    pub drawn : All (λ change. change.number < shared.enrolled) history
    pub mine : All (HasItsChanges history) passes

-- the rule, in two halves that share what the words hold
pub record IsKept (s : Settings) (words : List ℕ) (views : List (List PassView)) : Type 0 where
  pub core : IsCoreHalf s words (joined_passes views)
  pub history : List Change
  pub told : IsToldHalf s (shared_in s words) (joined_passes views) history
