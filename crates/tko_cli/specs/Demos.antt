-- What `demo` shows, and why it ends before its end.
use Rattle.std.specs.Prelude.{◌≡◌, ℕ, Bool, true, false, List, ◌++◌, codes}
use Rattle.tko_io.specs.declared.io.Inlet.{Ghosts as InletGhosts}
use Rattle.tko_model.specs.declared.counts.Counts.{Counts}
use Rattle.tko_demo.specs.Faults.{IsFaultShown}
use Rattle.tko_demo.specs.Stories.{StaysToEnd, story_text}
use Rattle.tko_demo.specs.declared.fault.DemoFault.{DemoFault}
use Rattle.tko_cli.specs.Totals.{totals_text}
use Rattle.tko_options.specs.declared.demo_options.DemoOptions.{DemoOptions}

-- what is printed before the totals
abbrev pub totals_note : List ℕ
totals_note = codes "The client leaves, and the proxy ends with its totals:\n"

-- the lines of some totals were written after their note
pub record HasShownTotals {O : Type 0} (takes : O → List ℕ → O → Type 0) (from to : O) : Type 0
  where
    pub counts : Counts
    pub shown : takes from (totals_note ++ totals_text counts) to

-- how it ends: with totals, or, where it stays, with its input
abbrev pub EndsAs : {I O : Type 0} → InletGhosts I → (O → List ℕ → O → Type 0) → Bool
    → I × O → I × O → Type 0
EndsAs inlet takes false old new = HasShownTotals takes old.1 new.1 × (new.0 ≡ old.0)
EndsAs inlet takes true old new = StaysToEnd inlet takes old new

-- each scene was written, and then it ended so
pub record HasDemonstrated {I O : Type 0} (inlet : InletGhosts I)
    (takes : O → List ℕ → O → Type 0) (options : DemoOptions) (old new : I × O) : Type 0 where
  pub middle : O
  pub story : takes old.1 story_text middle
  pub ended : EndsAs inlet takes options.stay (old.0, middle) new

-- a fault came, of which this is known, and its line was written and nothing else, or that failed
pub record IsDemoFault {F : Type 0} (notes : F → List ℕ → F → Type 0) (faults : F → ℕ)
    (came : DemoFault → Type 0) (old new : F) : Type 0 where
  pub reason : DemoFault
  pub known : came reason
  pub line : IsFaultShown notes faults reason old new
