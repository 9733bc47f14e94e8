-- What the clocks give.
use Rattle.std.specs.Prelude.{◌≡◌, ℕ, ◌-◌, ◌/◌, max, List, [], ◌∷◌, Option, Some, None, unwrap_or}
use Rattle.tko_bytes.specs.Numbers.{capped}
use Rattle.tko_io.specs.declared.clock.FrozenClock.{FrozenClock}

-- moment 0, always
pub record IsFrozen (old : FrozenClock) (moment : ℕ) (new : FrozenClock) : Type 0 where
  pub zero : moment ≡ 0
  pub same : new ≡ old

-- the moments that are left, and the last one that was given
pub record MomentList : Type 0 where
  pub left : List ℕ
  pub last : ℕ

-- the next moment of a list, or the last one again
abbrev pub next_moment : List ℕ → ℕ → ℕ
next_moment [] last = last
next_moment (moment ∷ left) last = moment

abbrev pub after_first : List ℕ → List ℕ
after_first [] = []
after_first (moment ∷ left) = left

-- the first moment that is left, or the last one again
pub record IsListed (old : MomentList) (moment : ℕ) (new : MomentList) : Type 0 where
  pub gives : moment ≡ next_moment old.left old.last
  pub left : new ≡ record { left = after_first old.left; last = moment }

-- when a clock started, in nanoseconds, if it could be read since, and the last moment that it gave
pub record ElapsedTime : Type 0 where
  pub start : Option ℕ
  pub last : ℕ

-- the nanoseconds of a millisecond
abbrev pub nanos_of_milli : ℕ
nanos_of_milli = 1000000

-- milliseconds from one instant to another, both in nanoseconds
abbrev pub millis_between : ℕ → ℕ → ℕ
millis_between start now = capped ((now - start) / nanos_of_milli)

-- the moment at this instant: milliseconds since the start, which is this instant where there is
-- none yet, and never less than before
abbrev pub elapsed_at : ElapsedTime → ℕ → ElapsedTime
elapsed_at old now = record {
  start = Some (unwrap_or old.start now);
  last = max old.last (millis_between (unwrap_or old.start now) now);
}

-- the same where the clock could be read, and else as before
abbrev pub elapsed_to : ElapsedTime → Option ℕ → ElapsedTime
elapsed_to old None = old
elapsed_to old (Some now) = elapsed_at old now

-- the clock was read or could not be, and gave the moment of that instant
pub record IsElapsed (old : ElapsedTime) (moment : ℕ) (new : ElapsedTime) : Type 0 where
  pub now : Option ℕ
  pub clock : new ≡ elapsed_to old now
  pub gives : moment ≡ new.last
