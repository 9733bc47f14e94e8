-- The time in which a process runs.
use Rattle.std.specs.Prelude.{◌+◌, ◌-◌, ◌/◌, ◌%◌, nat_le, if◌then◌else◌, ℕ, min}
use Rattle.tko_pace.specs.declared.running.RunningTime.{RunningTime}
use Rattle.tko_pace.specs.Pacing.{last_moment}

-- how much of a limit a stall takes: a quarter, rounded up
abbrev pub stall_share : (limit : ℕ) → ℕ
stall_share limit = limit / 4 + min (limit % 4) 1

-- how much counts of the time that passed between two readings with a wait between them: all of it,
-- unless the process stalled
abbrev pub counted_time : (limit wait passed : ℕ) → ℕ
counted_time limit wait passed =
    if nat_le (passed - wait) (limit / 2) then passed else stall_share limit

-- the clock was read again
abbrev pub ran_to : (shown wait : ℕ) → RunningTime → RunningTime
ran_to shown wait it = record it {
  shown = shown;
  ran = min (it.ran + counted_time it.limit wait (shown - it.shown)) last_moment;
}
