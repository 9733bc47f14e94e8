-- The moments of a worker's turns.
use Rattle.std.specs.Prelude.{◌≡◌, ◌≤◌, ◌+◌, ◌-◌, if◌then◌else◌, ℕ, Bool, true, min}
use Rattle.tko_pace.specs.declared.lag.Lag.{Lag}
use Rattle.tko_pace.specs.declared.running.RunningTime.{RunningTime}
use Rattle.tko_pace.specs.declared.turn_times.TurnMoments.{TurnMoments}
use Rattle.tko_pace.specs.Lags.{IsCovered, TurnSpan, longest_of, noted_turn}
use Rattle.tko_pace.specs.Pacing.{last_moment}
use Rattle.tko_pace.specs.Running.{ran_to}

-- how long the worker ran, how long its turns of late lasted, when the turn began, by which moment
-- what is due is late, by which it will be in the next turn, and whether all events were noted
pub record TurnState : Type 0 where
  pub time : RunningTime
  pub lag : Lag
  pub began : ℕ
  pub judged : ℕ
  pub next : ℕ
  pub is_noted : Bool

abbrev pub fresh_turns : (limit : ℕ) → TurnState
fresh_turns limit = record {
  time = record { limit = limit; shown = 0; ran = 0 };
  lag = record { limit = limit; since = 0; longest = 0; before = 0 };
  began = 0;
  judged = 0;
  next = 0;
  is_noted = true;
}

-- the moments of a turn: what is asked in it is due a time limit after it began
abbrev pub moments_of : TurnState → TurnMoments
moments_of it = record {
  began = it.began;
  judged = it.judged;
  due = min (it.began + it.time.limit) last_moment;
}

-- a turn began after a wait: what was due before the wait is late, where all events were noted that
-- had come by then; else it is judged as in the turn before
abbrev pub turn_begun : (shown wait : ℕ) → Bool → TurnState → TurnState
turn_begun shown wait is_noted it = record it {
  time = ran_to shown wait it.time;
  began = (ran_to shown wait it.time).ran;
  judged = if is_noted then it.next else it.judged;
  is_noted = is_noted;
}

-- a turn ended, after its writes: the next one judges by this moment less what turns of late
-- lasted; where events were left, by the moment of before
pub record IsTurnOver (shown : ℕ) (old new : TurnState) : Type 0 where
  pub time : new.time ≡ ran_to shown 0 old.time
  pub lag : new.lag ≡ noted_turn (new.time.ran - old.began) new.time.ran old.lag
  pub next : new.next
      ≡ (if old.is_noted then new.time.ran - longest_of new.lag else old.next)
  pub began : new.began ≡ old.began
  pub judged : new.judged ≡ old.judged
  pub is_noted : new.is_noted ≡ old.is_noted

-- after a wait a turn began: what is late in it was due before the wait
pub record HasTurnBegun (old new : TurnState) : Type 0 where
  pub late : new.judged ≤ old.time.ran
  pub ran : old.time.ran ≤ new.time.ran
  pub lag : new.lag ≡ old.lag

-- a turn ended: how long it lasted until its writes is known, and still of each turn before. So
-- what the next turn finds late, where no events are left, and counts from one of those turns, had
-- the whole time limit after the writes of its turn
pub record HasTurnEnded (old new : TurnState) : Type 0 where
  pub moments : moments_of new ≡ moments_of old
  pub covers : IsCovered new.lag (record { began = old.began; ended = new.time.ran })
  pub kept : (turn : TurnSpan) → turn.ended ≤ old.time.ran → IsCovered old.lag turn
      → IsCovered new.lag turn
  pub counts : old.is_noted ≡ true → (turn : TurnSpan) → IsCovered new.lag turn
      → turn.ended ≤ new.time.ran → turn.began + new.time.limit ≤ new.next
      → turn.ended + new.time.limit ≤ new.time.ran

-- a turn from the wait before it to its end
pub record IsTurnTimed (old new : TurnState) : Type 0 where
  pub mid : TurnState
  pub begun : HasTurnBegun old mid
  pub ended : HasTurnEnded mid new
