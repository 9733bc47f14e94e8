-- The clock of a loop's turns.
use Rattle.std.specs.Prelude.{◌≡◌, ℕ, ◌-◌, max, Option, Some, None, unwrap_or}
use Rattle.tko_bytes.specs.Numbers.{capped}

-- when the clock started, in its own nanoseconds, if it could be read since; and the nanoseconds
-- since then, as it was read last
pub record ShownTime : Type 0 where
  pub start : Option ℕ
  pub nanos : ℕ

-- the nanoseconds of a microsecond
abbrev pub nanos_of_micro : ℕ
nanos_of_micro = 1000

-- nanoseconds from one instant to another
abbrev pub nanos_between : ℕ → ℕ → ℕ
nanos_between start now = capped (now - start)

-- the time at this instant, which is the start where there is none yet; never less than before
abbrev pub turn_shown_at : ShownTime → ℕ → ShownTime
turn_shown_at old now = record {
  start = Some (unwrap_or old.start now);
  nanos = max old.nanos (nanos_between (unwrap_or old.start now) now);
}

-- the same where the clock could be read, and else as before
abbrev pub shown_by : ShownTime → Option ℕ → ShownTime
shown_by old None = old
shown_by old (Some now) = turn_shown_at old now

-- the clock was read once, or could not be
pub record IsClockRead (old new : ShownTime) : Type 0 where
  pub now : Option ℕ
  pub shown : new ≡ shown_by old now
