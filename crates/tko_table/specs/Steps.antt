-- What each step function promises: the core's step of the phase, on plain data.
use Rattle.std.specs.Prelude.{All, Some, length, ◌≡◌, ℕ, ◌+◌, ◌<◌, ◌≤◌, Bool, true, false, List, [], ◌∷◌, ◌++◌}
use Rattle.atomic_table.specs.declared.shared.Seat.{Seat}
use Rattle.atomic_table.specs.Table.{Me}
use Rattle.tko_model.specs.declared.mark.Mark.{Mark}
use Rattle.tko_model.specs.declared.mark.Op.{Op}
use Rattle.tko_model.specs.Settings.{Settings}
use Rattle.tko_model.specs.declared.state.ServerState.{ServerState}
use Rattle.tko_model.specs.Tracker.{IsFit, server_at}
use Rattle.tko_word.specs.Words.{IsMark, IsMarkOf, IsWord, server_in, stamp_end}
use Rattle.tko_model.specs.Groups.{limit_at}
use Rattle.tko_steps.specs.declared.phase.Call.{Call}
use Rattle.tko_steps.specs.declared.phase.Phase.{Phase}
use Rattle.tko_steps.specs.declared.phase.ThreadState.TheVariants.{InCall}
use Rattle.tko_steps.specs.declared.table.Action.{Action}
use Rattle.tko_steps.specs.declared.table.Action.TheVariants.{LookAtServer, LookAtSlots, Exchange, Settle, Loosen}
use Rattle.tko_steps.specs.declared.table.Observed.{Observed}
use Rattle.tko_steps.specs.declared.table.Observed.TheVariants as read
use Rattle.tko_steps.specs.Core.{CoreState, seen_by, shared_after, thread_at, word_at}
use Rattle.tko_steps.specs.Invariant.{IsCore}
use Rattle.tko_steps.specs.Steps.{in_call, is_marked_state, seen_in, owned_after, place_of}
use Rattle.tko_steps.specs.declared.step.Word.{Word}
use Rattle.tko_steps.specs.declared.step.Word.TheVariants as held
use Rattle.tko_steps.specs.Table.{action_of}
use Rattle.tko_table.specs.declared.pass.Change.{Change}
use Rattle.tko_table.specs.declared.pass.PassView.{PassView}
use Rattle.tko_table.specs.History.{Replays, made_by}
use Rattle.tko_table.specs.Passes.{is_marked_by, owns, pass_after_step}
use Rattle.tko_steps.specs.declared.phase.Slots.{Slots}
use Rattle.tko_steps.specs.Core.{slots_in}
use Rattle.tko_table.specs.Rule.{health_place}

-- what a seat knows: its passes
abbrev pub view_of : Seat (Unit {0}) (List PassView) → List PassView
view_of seat = seat.me.0

-- a step leaves a seat in its table, with no slot more
abbrev pub IsSameSeat : Seat (Unit {0}) (List PassView) → Seat (Unit {0}) (List PassView) → Type 0
IsSameSeat old new = (new.table_id ≡ old.table_id) × (new.me.1 ≡ old.me.1)

-- what the number in the word of a step holds
abbrev pub word_held_by : Action → ℕ → Word
word_held_by LookAtServer number = held.Server (server_in number)
word_held_by (Exchange found mark) number = held.Server (server_in number)
word_held_by action number = held.Soft (slots_in number)

-- what a step reads in the number that it found in its word
abbrev pub read_in : Action → ℕ → Observed
read_in action number = seen_in action (word_held_by action number)

-- this state of the core, under these settings, meets the core's invariant, and the call of one of
-- its threads is at this phase
pub record IsFound (s : Settings) (call : Call) (phase : Phase) (core : CoreState) : Type 0 where
  pub is : IsCore core
  pub settings : core.settings ≡ s
  pub thread : ℕ
  pub inside : thread < length core.threads
  pub stands : thread_at core thread ≡ InCall call phase

-- a step of this call at this phase, by the pass of a thread: it finds a state of the core whose
-- servers are the replay of the history, which begins with what the pass has seen; it reads and
-- leaves what the core's step does; the pass has then seen the whole history, a change that the
-- step makes goes last in it, and an answer goes last in the thread's calls
pub record Takes (before : PassView) (call : Call) (phase : Phase) (it : Observed)
    (after : PassView) : Type 0 where
  -- what the words hold, and the states of all threads
  pub core : CoreState
  pub is_found : IsFound before.settings call phase core
  -- the changes since the pass looked last, which are other threads'
  pub between : List Change
  pub others : made_by call.number between ≡ []
  pub drawn : All (λ change. change.number < before.settings.threads) between
  pub found : Replays before.settings (before.seen ++ between) core.shared.servers
  pub reads : it ≡ seen_by before.settings core.shared call.server (action_of call.number phase)
  pub left :
      Replays
      before.settings
      after.seen
      (shared_after before.settings core.shared call.server (action_of call.number phase)).servers
  -- the servers that its thread owns are those whose marks name it
  pub own : (server : ℕ) →
      owns before.owned server
      ≡ is_marked_by (Some call.number) (server_at core.shared.servers server).mark
  -- the servers that it then owns are those that the core's step leaves it
  pub gained : (server : ℕ) →
      owns after.owned server
      ≡ owned_after
      before.settings
      call
      phase
      (word_at core.shared (place_of before.settings call.server (action_of call.number phase)))
      (owns before.owned)
      server
  pub knows : after ≡ pass_after_step before call phase it (before.seen ++ between)

-- the seat's one pass took that step, which read this
pub record Took
    (before : List PassView) (call : Call) (phase : Phase) (it : Observed) (after : List PassView)
    : Type 0 where
  pub old : PassView
  pub new : PassView
  pub was : before ≡ old ∷ []
  pub is : after ≡ new ∷ []
  pub takes : Takes old call phase it new

-- what a step on a word tells the pass of a call: it took the step of its phase
abbrev pub Plays : Me (Unit {0}) (List PassView) → ℕ → Me (Unit {0}) (List PassView) → Type 0
Plays old found new =
    (pass : PassView) (call : Call) (phase : Phase) →
    old.0 ≡ pass ∷ [] →
    pass.state ≡ InCall call phase →
    Took old.0 call phase (read_in (action_of call.number phase) found) new.0

-- a health word that was found: a mark that the settings allow, and a stamp that fits it
pub record IsSoundWord (s : Settings) (word : ℕ) : Type 0 where
  pub valid : IsWord word
  pub allowed : IsMarkOf s (server_in word).mark
  pub fit : IsFit s (server_in word).mark (server_in word).stamp

-- a soft word that was found by a call on this server: no more slots are taken than the limit of
-- its group allows
pub record IsWithinLimit (s : Settings) (server : ℕ) (slots : Slots) : Type 0 where
  pub room : slots.firm + slots.held ≤ limit_at s server

-- what a load of a server's word tells: the call that is under way, or that begins with this
-- operation on this server, took the step of its phase
pub record Looked
    (op : Op) (word : ℕ) (old : Me (Unit {0}) (List PassView)) (found : ℕ)
    (new : Me (Unit {0}) (List PassView)) : Type 0
  where
    pub plays : (pass : PassView) (call : Call) (phase : Phase) →
        old.0 ≡ pass ∷ [] →
        word ≡ health_place call.server →
        in_call pass.state op call.server ≡ InCall call phase →
        Took old.0 call phase (read_in (action_of call.number phase) found) new.0
    pub sound : (pass : PassView) → old.0 ≡ pass ∷ [] → IsSoundWord pass.settings found

-- what an exchange of a server's word tells; a mark that its own call expects still stands
pub record Exchanged
    (word : ℕ) (old : Me (Unit {0}) (List PassView)) (found : ℕ)
    (new : Me (Unit {0}) (List PassView)) : Type 0
  where
    pub plays : Plays old found new
    pub valid : IsWord found
    pub stands : (pass : PassView) (call : Call) (phase : Phase) →
        (expected : ServerState) (mark : Mark) →
        old.0 ≡ pass ∷ [] →
        word ≡ health_place call.server →
        pass.state ≡ InCall call phase →
        action_of call.number phase ≡ Exchange expected mark →
        is_marked_state expected.mark ≡ true →
        server_in found ≡ expected

-- what a load of a soft word tells
pub record LookedAtSlots
    (old : Me (Unit {0}) (List PassView)) (found : ℕ) (new : Me (Unit {0}) (List PassView)) : Type 0
  where
    pub plays : Plays old found new
    pub within : (pass : PassView) (call : Call) (phase : Phase) →
        old.0 ≡ pass ∷ [] →
        pass.state ≡ InCall call phase →
        IsWithinLimit pass.settings call.server (slots_in found)

-- the seat's one pass may take the step of this call at this phase: the call is under way
pub record IsAt (view : List PassView) (call : Call) (phase : Phase) : Type 0 where
  pub pass : PassView
  pub alone : view ≡ pass ∷ []
  pub stands : pass.state ≡ InCall call phase

-- the same under these settings, or the call begins here with this operation; its server is one of
-- the table's
pub record CanLook (s : Settings) (op : Op) (view : List PassView) (call : Call) (phase : Phase)
    : Type 0
  where
    pub server : call.server < s.servers
    pub pass : PassView
    pub alone : view ≡ pass ∷ []
    pub stands : in_call pass.state op call.server ≡ InCall call phase
    pub settings : pass.settings ≡ s

-- the step is a look
abbrev pub IsLook : Action → Type 0
IsLook LookAtServer = Unit {0}
IsLook LookAtSlots = Unit {0}
IsLook action = ⊥

-- the step settles a soft mark, or loosens one
abbrev pub IsShift : Action → Type 0
IsShift Settle = Unit {0}
IsShift Loosen = Unit {0}
IsShift action = ⊥

abbrev pub is_look_at_slots : Action → Bool
is_look_at_slots LookAtSlots = true
is_look_at_slots action = false

abbrev pub is_settle : Action → Bool
is_settle Settle = true
is_settle action = false

-- what a look of a call on this server found: a server whose mark and stamp the settings allow, or
-- slots within the limit of its group
abbrev pub IsSound : Settings → ℕ → Observed → Type 0
IsSound s server (read.Server found) = IsMarkOf s found.mark × IsFit s found.mark found.stamp
IsSound s server (read.Slots slots) = slots.firm + slots.held ≤ limit_at s server
IsSound s server (read.Done won) = Unit {0}

-- an exchange whose words can be packed
pub record IsWritable (found : ServerState) (mark : Mark) : Type 0 where
  pub expected : IsMark found.mark
  pub new : IsMark mark
  pub below : found.stamp + 1 < stamp_end

-- the step of the call at this phase is the exchange of its server, which is one of the table's and
-- was found so, for this mark
pub record IsExchangeAt
    (s : Settings) (view : List PassView) (call : Call) (phase : Phase) (found : ServerState)
    (mark : Mark) : Type 0
  where
    pub server : call.server < s.servers
    pub stands : IsAt view call phase
    pub action : action_of call.number phase ≡ Exchange found mark
    pub words : IsWritable found mark
