-- The time of an exchange: how long the process ran in it, and how much of it is left, in
-- milliseconds, by a clock that may fail.
use Rattle.std.specs.Prelude.{◌≡◌, ◌≤◌, ◌<◌, ℕ, ◌+◌, ◌-◌, ◌/◌, max, min, ◌==◌, if◌then◌else◌, Option, Some, None, unwrap_or}
use Rattle.std.specs.declared.time.Duration.{Duration}
use Rattle.std.specs.declared.time.Instant.{Instant}
use Rattle.std.specs.Duration.{as_nanos}
use Rattle.std.specs.Time.{instant_nanos}
use Rattle.tko_bytes.specs.Numbers.{capped}
use Rattle.tko_pace.specs.Running.{ran_to}
use Rattle.tko_tcp.specs.declared.exchange_time.ExchangeTime.{ExchangeTime}
use Rattle.tko_tcp.specs.declared.progress.Progress.{Progress}
use Rattle.tko_tcp.specs.ProbeTimes.{nanos_in_milli}

-- how many bytes of a response are progress
abbrev pub progress_bytes : ℕ
progress_bytes = 65536

-- the time for progress begins at this moment
abbrev pub begun_progress : ℕ → Progress
begun_progress now = record { since = now; missing = progress_bytes }

-- it begins anew at this moment if enough bytes came
abbrev pub looked_progress : ℕ → Progress → Progress
looked_progress now progress =
    if progress.missing == 0 then begun_progress now else progress

-- whole milliseconds in a time of so many nanoseconds
abbrev pub millis_in : ℕ → ℕ
millis_in nanos = capped (nanos / nanos_in_milli)

-- how many milliseconds passed between two readings of the clock, if both succeeded
abbrev pub millis_passed : Option Instant → Option Instant → Option ℕ
millis_passed (Some from) (Some to) = Some (millis_in (instant_nanos to - instant_nanos from))
millis_passed _ _ = None

-- how long one call of an exchange waits at most: a quarter of its limit, and a millisecond
abbrev pub quarter_of : ℕ → ℕ
quarter_of limit = max (limit / 4) 1

-- an exchange begins that has so long
pub record IsTimeBegun (given : Duration) (time : ExchangeTime) : Type 0 where
  pub limit : time.limit ≡ given
  pub shown : time.shown ≡ 0
  pub running : time.running ≡ record { limit = millis_in (as_nanos given); shown = 0; ran = 0 }
  pub progress : time.progress ≡ begun_progress 0

-- what the clock shows: the time that passed; where that is not known, the last call waited for as
-- long as a call may
abbrev pub shown_at : Option Instant → ExchangeTime → ℕ
shown_at now time =
    unwrap_or (millis_passed time.begun now) (capped (time.shown + quarter_of time.running.limit))

-- the clock is read after a call: the time in which the process ran goes on, and the time for
-- progress begins anew if enough bytes came before
abbrev pub looked_at : Option Instant → ExchangeTime → ExchangeTime
looked_at now time =
    let running = ran_to (shown_at now time) (quarter_of time.running.limit) time.running in
    record time {
      shown = shown_at now time;
      running = running;
      progress = looked_progress running.ran time.progress;
    }

-- the same exchange, later: no bytes came, and so its time for progress goes on
pub record IsLater (old new : ExchangeTime) : Type 0 where
  pub begun : new.begun ≡ old.begun
  pub limit : new.limit ≡ old.limit
  pub running : new.running.limit ≡ old.running.limit
  pub ran : old.running.ran ≤ new.running.ran
  pub progress : 0 < old.progress.missing → new.progress ≡ old.progress

-- so many bytes of the response came
abbrev pub came_in : ℕ → ExchangeTime → ExchangeTime
came_in count time =
    record time { progress = record time.progress { missing = time.progress.missing - count } }

-- how much is left of the time in which the response has to make progress
abbrev pub left_of : ExchangeTime → ℕ
left_of time = time.running.limit - (time.running.ran - time.progress.since)

-- how long a call that begins now may wait
abbrev pub turn_left : ExchangeTime → ℕ
turn_left time = min (left_of time) (quarter_of time.running.limit)

-- one of `parts` equal parts of a time; all of it if `parts` is 0
abbrev pub share_of : ℕ → ℕ → ℕ
share_of left parts = left / max parts 1
