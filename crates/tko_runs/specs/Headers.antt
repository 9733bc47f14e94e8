-- One line of a header at the front of a text.
use Rattle.std.specs.Prelude.{◌≡◌, ℕ, List, ◌∷◌, Option, Some, None}
use Rattle.tko_runs.specs.declared.schedule.fault.ScheduleFault.{ScheduleFault}
use Rattle.tko_runs.specs.declared.schedule.fault.ScheduleFault.TheVariants as fault
use Rattle.tko_bytes.specs.Lines.{lines_of}
use Rattle.tko_runs.specs.ScheduleHeaders.{schedule_line_at}

-- the text begins with a line of this form and value, and this is the rest
pub record HasLine
    {A : Type 0} (form : List ℕ → Option A) (text : List ℕ) (value : A) (rest : List ℕ) : Type 0
  where
    pub line : List ℕ
    pub lines : lines_of text ≡ line ∷ lines_of rest
    pub is : form line ≡ Some value

-- it does not, and the line of this number is the fault
pub record LacksLine
    {A : Type 0} (number : ℕ) (form : List ℕ → Option A) (text : List ℕ) (told : ScheduleFault)
    : Type 0 where
  pub bad : told ≡ fault.Line number
  pub is : form (schedule_line_at (lines_of text) 0) ≡ None
