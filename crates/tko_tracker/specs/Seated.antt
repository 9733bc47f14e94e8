-- What a tracker and a pass are in contracts.
use Rattle.std.specs.Prelude.{◌≡◌, ℕ, ◌+◌, ◌*◌, ◌<◌, ◌≤◌, ◌==◌, All, true, false, if◌then◌else◌, List, [], ◌∷◌, ◌++◌, count_by, length, slice_index_or}
use Rattle.atomic_table.specs.declared.shared.Seat.{Seat}
use Rattle.atomic_table.specs.Seated.{TableId}
use Rattle.tko_model.specs.declared.look.Look.{Look}
use Rattle.tko_model.specs.declared.mark.Mark.{Mark}
use Rattle.tko_model.specs.declared.mark.Op.{Op}
use Rattle.tko_model.specs.declared.mark.Op.TheVariants.{LookUp, Release}
use Rattle.tko_model.specs.declared.mark.Reply.{Reply}
use Rattle.tko_model.specs.declared.mark.Reply.TheVariants.{Released}
use Rattle.tko_model.specs.Settings.{Settings}
use Rattle.tko_model.specs.Looks.{look_of, look_reply}
use Rattle.tko_steps.specs.declared.phase.ThreadState.TheVariants.{Idle}
use Rattle.tko_steps.specs.Cost.{most_steps}
use Rattle.tko_table.specs.declared.pass.Change.{Change}
use Rattle.tko_table.specs.declared.pass.Made.{Made}
use Rattle.tko_table.specs.declared.pass.PassView.{PassView}
use Rattle.tko_table.specs.declared.words.Words.{Words}
use Rattle.tko_table.specs.History.{changes_in, made_by}
use Rattle.tko_table.specs.Passes.{new_pass, owns}
use Rattle.tko_table.specs.Steps.{view_of}
use Rattle.tko_tracker.specs.Calls.{Called, answers_owner, can_answer, owned_left}
use Rattle.tko_tracker.specs.History.{Adds}
use Rattle.tko_tracker.specs.Owned.{AreBitsOf}

-- a tracker: its settings, and which table has its words
pub record TrackerId : Type 0 where
  pub settings : Settings
  pub table : TableId

-- the tracker of these words
abbrev pub tracker_of : Words → TrackerId
tracker_of words = record { settings = words.settings; table = words.table.shared.table_id }

-- a pass: what its thread knows, and at which table
pub record Seated : Type 0 where
  pub pass : PassView
  pub table : TableId

-- the first pass of a view
abbrev pub first_pass : List PassView → PassView
first_pass [] =
    new_pass
    (record {
      servers = 0;
      threads = 0;
      failures = 0;
      limits = [];
      group_of = [];
      tries = 0;
      opening_stamp = 0;
    })
first_pass (pass ∷ passes) = pass

abbrev pub seated : Seat (Unit {0}) (List PassView) → Seated
seated seat = record { pass = first_pass (view_of seat); table = seat.table_id }

-- the thread of this number makes no call
pub record IsIdle (number : ℕ) (pass : PassView) : Type 0 where
  pub state : pass.state ≡ Idle number
  pub within : number < pass.settings.threads

-- the seat has the pass of this thread alone, which makes no call
pub record HasPass (number : ℕ) (seat : Seat (Unit {0}) (List PassView)) : Type 0 where
  pub alone : view_of seat ≡ first_pass (view_of seat) ∷ []
  pub slots : seat.me.1 ≡ []
  pub idle : IsIdle number (first_pass (view_of seat))

-- its thread owns no server
abbrev pub OwnsNothing : PassView → Type 0
OwnsNothing pass = (server : ℕ) → owns pass.owned server ≡ false

-- its thread owns no server past the last
abbrev pub OwnsBelow : PassView → Type 0
OwnsBelow pass = (server : ℕ) → pass.settings.servers ≤ server → owns pass.owned server ≡ false

pub record HasIdlePass (number : ℕ) (seat : Seat (Unit {0}) (List PassView)) : Type 0 where
  pub has : HasPass number seat
  pub none : OwnsNothing (first_pass (view_of seat))

pub record HasOwnedPass (number : ℕ) (words : List ℕ) (seat : Seat (Unit {0}) (List PassView))
    : Type 0 where
  pub has : HasPass number seat
  pub bits : AreBitsOf (first_pass (view_of seat)).owned words
  pub below : OwnsBelow (first_pass (view_of seat))

-- the pass is one of this tracker
pub record IsOf (tracker : TrackerId) (seated : Seated) : Type 0 where
  pub table : seated.table ≡ tracker.table
  pub settings : seated.pass.settings ≡ tracker.settings

-- nothing has happened that the thread of this pass knows of: it owns no server and made no call,
-- and the history that it has seen is empty
pub record IsFresh (pass : PassView) : Type 0 where
  pub owned : pass.owned ≡ []
  pub mine : pass.mine ≡ []
  pub seen : pass.seen ≡ []

-- the pass at each place is this tracker's, and has the number of its place; no thread has made a
-- call yet
pub record ArePasses (tracker : TrackerId) (passes : List Seated) : Type 0 where
  pub each : (place : ℕ) (other : Seated) →
      place < length passes →
      IsOf tracker (slice_index_or passes place other)
      × ((slice_index_or passes place other).pass.state ≡ Idle place)
  pub fresh : (place : ℕ) (other : Seated) →
      place < length passes → IsFresh (slice_index_or passes place other).pass

-- a pass of this tracker made a call with this answer, within the bound of its steps, and is idle
-- again
pub record Answered
    (tracker : TrackerId) (before : Seated) (op : Op) (server : ℕ) (answer : Reply) (after : Seated)
    : Type 0
  where
    pub of : IsOf tracker after
    pub called : Called before.pass op server answer after.pass
    pub adds : Adds before.pass op server answer after.pass
    pub state : after.pass.state ≡ before.pass.state
    pub steps : after.pass.steps ≤ before.pass.steps + most_steps tracker.settings op
    pub allowed : can_answer op answer ≡ true
    pub owned : after.pass.owned ≡ owned_left answer server before.pass.owned
    -- on a server that its own thread marked
    pub owner : owns before.pass.owned server ≡ true → answers_owner op answer ≡ true

-- a pass of this tracker looked a server up by one step, which found this mark
pub record LookedUp
    (tracker : TrackerId) (before : Seated) (server : ℕ) (look : Look) (after : Seated) : Type 0
  where
    pub mark : Mark
    pub answered : Answered tracker before LookUp server (look_reply mark) after
    pub is : look ≡ look_of server mark

-- a call that released the mark of its thread
pub record IsRelease (made : Made) : Type 0 where
  pub op : made.op ≡ Release
  pub mark : Mark
  pub reply : made.reply ≡ Released mark

-- how many of these calls were on this server
abbrev pub calls_on : ℕ → List Made → ℕ
calls_on server calls = count_by (λ made. made.server == server) calls

-- the pass of the thread of this number made these calls, and saw their changes: in what it then
-- has seen more of the history, its thread's changes are theirs, in order
pub record Makes (number : ℕ) (before : PassView) (calls : List Made) (after : PassView)
    : Type 0 where
  pub mine : after.mine ≡ before.mine ++ calls
  pub more : List Change
  pub seen : after.seen ≡ before.seen ++ more
  pub own : made_by number more ≡ changes_in number calls

-- a pass of this tracker released every mark of its thread, each by one call of four steps at most,
-- and made no other call
pub record Retired (tracker : TrackerId) (before : Seated) (after : Seated) : Type 0 where
  pub of : IsOf tracker after
  pub number : ℕ
  pub idle : before.pass.state ≡ Idle number
  pub state : after.pass.state ≡ before.pass.state
  pub none : OwnsNothing after.pass
  pub steps : after.pass.steps ≤ before.pass.steps + 4 * length before.pass.owned
  pub calls : List Made
  pub releases : All IsRelease calls
  pub each : (server : ℕ) →
      calls_on server calls ≡ (if owns before.pass.owned server then 1 else 0)
  pub makes : Makes number before.pass calls after.pass
