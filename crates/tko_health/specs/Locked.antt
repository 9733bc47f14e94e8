-- What is known of a tracker that several threads change: each reply is the sequential tracker's,
-- for some state of a tracker with these settings. Nothing is known of that state but what the seat
-- of the calling thread keeps of it.
use Rattle.std.specs.Prelude.{◌≡◌, ℕ, ◌<◌, ◌==◌, Bool, false, List, All, length, replicate, slice_set, Option, Some}
use Rattle.tko_model.specs.Looks.{duty_of}
use Rattle.tko_model.specs.Records.{HealthItem, Called, NoDuty}
use Rattle.tko_model.specs.Tracker.{IsTracker, Tracker, after, server_at}
use Rattle.tko_model.specs.declared.mark.Mark.{Mark}
use Rattle.tko_model.specs.declared.mark.Mark.TheVariants.{Up, Soft, Hard}
use Rattle.tko_model.specs.Settings.{Settings}
use Rattle.tko_health.specs.Health.{HasReply}

-- a thread's place at a tracker in a lock: its number, and for each server whether the thread's
-- last call there left the mark its own
pub record SeatState : Type 0 where
  pub thread : ℕ
  pub owned : List Bool

-- a seat at a tracker with these settings
pub record IsSeat (settings : Settings) (seat : SeatState) : Type 0 where
  pub within : seat.thread < settings.threads
  pub servers : length seat.owned ≡ settings.servers

-- the seat of a thread that has not made a call
abbrev pub fresh_seat : ℕ → ℕ → SeatState
fresh_seat servers thread = record { thread = thread; owned = replicate servers false }

-- no mark is the thread's own
abbrev pub OwnsNone : SeatState → Type 0
OwnsNone seat = All (λ own. own ≡ false) seat.owned

-- whether a mark is this thread's
abbrev pub is_own : ℕ → Mark → Bool
is_own thread (Up count) = false
is_own thread (Soft owner) = owner == thread
is_own thread (Hard owner) = owner == thread

-- the seat once its thread knows this mark of a server
abbrev pub seat_noted : ℕ → Mark → SeatState → SeatState
seat_noted server mark seat =
    record seat { owned = slice_set seat.owned server (is_own seat.thread mark) }

-- the seat after an item whose call found this tracker: it knows the mark that the call left
abbrev pub seat_after : Tracker → HealthItem → SeatState → SeatState
seat_after tracker (Called op server answer) seat =
    seat_noted server (server_at (after tracker seat.thread op server).servers server).mark seat
seat_after tracker (NoDuty server) seat = seat

-- the tracker as a call of any thread may find it
pub record IsTrackerFound (settings : Settings) (tracker : Tracker) : Type 0 where
  pub opened : tracker.settings ≡ settings
  pub within : IsTracker tracker

-- an item of a thread's record: a tracker that the call may find gives that reply, and the seat
-- knows the mark that the call left
pub record IsLockedStep (settings : Settings) (old : SeatState) (it : HealthItem) (new : SeatState)
    : Type 0 where
  pub tracker : Tracker
  pub found : IsTrackerFound settings tracker
  pub reply : HasReply tracker old.thread it
  pub seat : new ≡ seat_after tracker it old

-- a tracker that a call of this thread may find gives it the right to probe this server
pub record MayGrant (settings : Settings) (seat : SeatState) (server : ℕ) : Type 0 where
  pub tracker : Tracker
  pub found : IsTrackerFound settings tracker
  pub right : duty_of server (server_at tracker.servers server).mark seat.thread ≡ Some server

-- the right to probe a server, as a tracker that the call may find grants or denies it
pub record IsDuty (settings : Settings) (seat : SeatState) (server : ℕ) (duty : Option ℕ)
    : Type 0 where
  pub tracker : Tracker
  pub found : IsTrackerFound settings tracker
  pub exact : duty ≡ duty_of server (server_at tracker.servers server).mark seat.thread

-- an idle seat of this number, and a worker's seat that is taken or given back so: the number is
-- the same, and no mark is the thread's own
pub record IsSeatOf (number : ℕ) (seat : SeatState) : Type 0 where
  pub same : seat.thread ≡ number
  pub none : OwnsNone seat
