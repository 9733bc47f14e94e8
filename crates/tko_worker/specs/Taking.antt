-- What came from the servers of a worker was taken in a turn of events.
use Rattle.std.specs.Prelude.{◌≡◌, ◌<◌, ℕ, Bool, true, List, [], slice_get, unwrap_or}
use Rattle.std.specs.Bool.{OnFalse}
use Rattle.tko_port.specs.declared.guest.Guest.{Guest}
use Rattle.tko_mux.specs.Muxes.{WaitsFor}
use Rattle.tko_worker.specs.Acts.{HasActed}
use Rattle.tko_worker.specs.Servers.{HasNoResponse}
use Rattle.tko_worker.specs.Workers.{Sight, WorkerState}

-- whether the flag of a server is set; one that has none counts as set
abbrev pub is_flag_set : List Bool → ℕ → Bool
is_flag_set flags server = unwrap_or (slice_get flags server) true

-- at some moment between these two no whole response of a server was unread
pub record AreResponsesTaken {L T P : Type 0} (sight : Sight L T) (waits_for : WaitsFor (Guest L T))
    (old : WorkerState L T P) (server : ℕ) (new : WorkerState L T P) : Type 0 where
  pub mid : WorkerState L T P
  pub before : HasActed sight old mid
  pub none : HasNoResponse waits_for mid.mux server
  pub after : HasActed sight mid new

-- so it was of each of so many servers whose flag is set
abbrev pub AreTaken : {L T P : Type 0} → Sight L T → WaitsFor (Guest L T) → List Bool → ℕ
    → WorkerState L T P → WorkerState L T P → Type 0
AreTaken sight waits_for flags count old new = (server : ℕ) → server < count
    → is_flag_set flags server ≡ true → AreResponsesTaken sight waits_for old server new

-- a worker was served in a turn of events: no client is left that is to be served in it; and what
-- came from the servers was taken, unless some of it is left for the next turn
pub record IsTurnServed {L T P : Type 0} (sight : Sight L T) (waits_for : WaitsFor (Guest L T))
    (flags : List Bool) (count : ℕ) (is_behind : Bool) (old new : WorkerState L T P) : Type 0 where
  pub none : new.touched ≡ []
  pub taken : OnFalse is_behind (AreTaken sight waits_for flags count old new)
