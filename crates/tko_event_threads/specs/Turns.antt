-- The end of a turn of events: its round, and what is counted after it.
use Rattle.std.specs.Prelude.{◌≡◌, ℕ, Bool, List}
use Rattle.tko_health.specs.declared.health.Health.{Ghosts as HealthGhosts}
use Rattle.tko_reply.specs.declared.parts.Parts.{Parts}
use Rattle.tko_rounds.specs.Rounds.{IsEventRound, RoundState}
use Rattle.tko_worker.specs.Workers.{WorkerState}
use Rattle.tko_worker.specs.declared.ends.EndCounts.{EndCounts}
use Rattle.tko_event_threads.specs.Accounting.{AccountState, IsTurnCounted}

-- the clients that are to be served in this turn and in the next stay the same
pub record KeepsToServe {L T P : Type 0} (old new : WorkerState L T P) : Type 0 where
  pub touched : new.touched ≡ old.touched
  pub spent : new.spent ≡ old.spent

module _ {H C : Type 0} where
  -- the clients that ended and what came of the round were counted, and nothing else was done
  pub record IsTurnEnd (ends : EndCounts) (ran_out : Bool) (sent : ℕ)
      (old new : Parts H (List ℕ) AccountState C) : Type 0 where
    pub counted : IsTurnCounted ends ran_out sent old.trails new.trails
    pub others : new ≡ record old { trails = new.trails }

  -- a round of this moment was run, and after it that was counted, and nothing else was done
  pub record IsHostRound (health : HealthGhosts H) (moment : ℕ)
      (old new : Parts H (List ℕ) AccountState C) : Type 0 where
    pub due : ℕ
    pub ran_out : Bool
    pub before : RoundState H (List ℕ) C
    pub after : RoundState H (List ℕ) C
    pub round : IsEventRound health moment due before ran_out after
    pub from : before.backend ≡ old.backend
    pub to : after.backend ≡ new.backend
    pub ends : EndCounts
    pub sent : ℕ
    pub counted : IsTurnCounted ends ran_out sent old.trails new.trails
    pub others : new ≡ record old { backend = new.backend; trails = new.trails }
