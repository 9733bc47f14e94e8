-- The time that the probes of one worker may take, in milliseconds.
use Rattle.std.specs.Prelude.{◌≡◌, ℕ, ◌+◌, ◌-◌, ◌*◌, ◌/◌, min, max}
use Rattle.std.specs.declared.time.Duration.{Duration}
use Rattle.std.specs.Duration.{as_nanos}
use Rattle.tko_tcp.specs.declared.probe_time.ProbeTime.{ProbeTime}

-- what the probes have left of an exchange's time limit after `idle` milliseconds without a probe
abbrev pub refilled : ℕ → ℕ → ℕ → ℕ
refilled whole left idle = min whole (left + idle)

-- a probe gets at least this part of an exchange's time limit
abbrev pub least_part : ℕ
least_part = 16

-- the time limit of a probe: what is left, but at least a sixteenth of the whole, and a millisecond
abbrev pub shared_limit : ℕ → ℕ → ℕ
shared_limit whole left = max left (max (whole / least_part) 1)

abbrev pub nanos_in_milli : ℕ
nanos_in_milli = 1_000_000

-- a probe begins with this time limit, some milliseconds after the last probe ended
pub record IsProbeTimeGiven (old new : ProbeTime) (limit : Duration) : Type 0 where
  pub idle : ℕ
  pub left : new.left ≡ refilled old.whole old.left idle
  pub limited : as_nanos limit ≡ shared_limit old.whole new.left * nanos_in_milli
  pub whole : new.whole ≡ old.whole

-- a probe ends that took some milliseconds
pub record IsProbeTimeTaken (old new : ProbeTime) : Type 0 where
  pub used : ℕ
  pub left : new.left ≡ old.left - used
  pub whole : new.whole ≡ old.whole
