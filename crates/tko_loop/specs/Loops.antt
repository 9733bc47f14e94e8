-- A loop between two turns.
use Rattle.std.specs.Prelude.{◌≡◌, ◌<◌, ℕ, List, length}
use Rattle.tko_pace.specs.TurnTimes.{IsTurnTimed, TurnState}
use Rattle.tko_port.specs.Talks.{Readiness}
use Rattle.tko_worker.specs.Workers.{IsInOrder, Sight, WorkerState}

-- a loop can turn: its buffer for what servers send is not empty, and its clients are in order
pub record CanTurn {L T P : Type 0} (sight : Sight L T) (is_ready : Readiness P T)
    (buffer : List ℕ) (clients : WorkerState L T P) : Type 0 where
  pub room : 0 < length buffer
  pub order : IsInOrder sight is_ready clients

-- a turn of this moment was timed
pub record IsLoopTimed (old : TurnState) (moment : ℕ) (new : TurnState) : Type 0 where
  pub began : new.began ≡ moment
  pub timed : IsTurnTimed old new
