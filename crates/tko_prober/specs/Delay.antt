-- How long a probe waits, and when it is due.
use Rattle.std.specs.Prelude.{ℕ, ◌+◌, ◌*◌, ◌^◌, ◌≤◌, min}
use Rattle.tko_bytes.specs.Numbers.{capped}
use Rattle.tko_prober.specs.declared.delays.Delays.{Delays}

-- delays that can be chosen
pub record IsRange (first greatest : ℕ) : Type 0 where
  pub some_delay : 1 ≤ first
  pub within : first ≤ greatest

-- the first delay, doubled for each result, and never above the greatest
abbrev pub delay_after : Delays → ℕ → ℕ
delay_after delays results = min (delays.first * 2 ^ results) delays.greatest

-- the moment at which the probe that follows `results` results is due, where the last one came now
abbrev pub due_after : Delays → ℕ → ℕ → ℕ
due_after delays results now = capped (now + delay_after delays results)
