-- A text that was read from an inlet, and why one can't be read.
use Rattle.std.specs.Prelude.{ℕ, ◌≡◌, ◌+◌, ◌<◌, ◌≤◌, ◌⊎◌, List, length}
use Rattle.tko_commands.specs.declared.reading.InputFault.{InputFault}
use Rattle.tko_commands.specs.declared.reading.InputFault.TheVariants as fault

-- this is the input to its end, or `most` bytes of it
pub record IsText {I : Type 0} (gives : I → List ℕ → I → Type 0) (is_ended : I → Type 0)
    (most : ℕ) (old new : I) (text : List ℕ) : Type 0 where
  pub came : gives old text new
  pub within : length text ≤ most
  pub whole : is_ended new ⊎ (most ≤ length text)

-- a text has `count` bytes more, and no more than `most`
pub record IsLongerBy (count most : ℕ) (old new : List ℕ) : Type 0 where
  pub longer : length new ≡ length old + count
  pub within : count ≤ most

-- the inlet failed, or memory ran out
abbrev pub HasReadFault : {I : Type 0} → (I → ℕ) → I → I → InputFault → Type 0
HasReadFault failures old new fault.Input = failures old < failures new
HasReadFault failures old new fault.Memory = Unit {0}
