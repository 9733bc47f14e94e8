-- How long the turns of late lasted.
use Rattle.std.specs.Prelude.{◌≤◌, ◌+◌, ◌-◌, nat_lt, if◌then◌else◌, ℕ, max}
use Rattle.tko_pace.specs.declared.lag.Lag.{Lag}

-- a turn: when it began, and when all that it writes was written
pub record TurnSpan : Type 0 where
  pub began : ℕ
  pub ended : ℕ

-- a turn that lasted so long ended now: it is the longest of the span that goes on, or another is;
-- a span that lasted for the limit is over
abbrev pub noted_turn : (lasted now : ℕ) → Lag → Lag
noted_turn lasted now lag =
    if nat_lt (now - lag.since) lag.limit then record lag { longest = max lag.longest lasted }
    else record lag { since = now; before = lag.longest; longest = lasted }

-- the longest turn of late
abbrev pub longest_of : Lag → ℕ
longest_of lag = max lag.longest lag.before

-- it is known how long a turn may have lasted: as long as the longest of the span that goes on; or,
-- if it ended before that, as the longest of the span before; or it ended a limit before that
pub data IsCovered (lag : Lag) (turn : TurnSpan) : Type 0 where
  lately : turn.ended ≤ turn.began + lag.longest → IsCovered lag turn
  before : turn.ended ≤ lag.since → turn.ended ≤ turn.began + lag.before → IsCovered lag turn
  long_ago : turn.ended + lag.limit ≤ lag.since → IsCovered lag turn
