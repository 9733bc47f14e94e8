-- What a call leaves of a worker as it was.
use Rattle.std.specs.Prelude.{◌≡◌}
use Rattle.tko_worker.specs.Workers.{WorkerState}

-- the clients stay, who of them is to be served in this turn and in the next, and how they ended
pub record KeepsClients {L T P : Type 0} (old new : WorkerState L T P) : Type 0 where
  pub slots : new.mux.roster.slots ≡ old.mux.roster.slots
  pub touched : new.touched ≡ old.touched
  pub spent : new.spent ≡ old.spent
  pub ends : new.ends ≡ old.ends

-- so do the parts that they share, and the time limit of the connections: only the lines to the
-- servers change
pub record OnlyLinesChange {L T P : Type 0} (old new : WorkerState L T P) : Type 0 where
  pub roster : new.mux.roster ≡ old.mux.roster
  pub limit : new.mux.limit ≡ old.mux.limit
  pub touched : new.touched ≡ old.touched
  pub spent : new.spent ≡ old.spent
  pub ends : new.ends ≡ old.ends
