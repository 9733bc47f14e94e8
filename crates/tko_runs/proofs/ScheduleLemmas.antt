-- What a whole text says, from what was read of it.
use Rattle.std.proofs.Common.{◌≡◌, ℕ, ◌<◌, ◌≤◌, List, Ok, Err, length, drop, sym, ap, ◌∙◌}
use Rattle.std.proofs.lemmas.Bool.{cond-true, cond-false, lt-ltb, le-ltb}
use Rattle.tko_model.specs.Ranges.{first_fault_in}
use Rattle.tko_runs.specs.declared.schedule.command.Command.{Command}
use Rattle.tko_runs.specs.declared.schedule.fault.ScheduleFault.{ScheduleFault}
use Rattle.tko_runs.specs.declared.schedule.fault.ScheduleFault.TheVariants as fault
use Rattle.tko_bytes.specs.Lines.{lines_of}
use Rattle.tko_runs.specs.ScheduleHeaders.{ScheduleHeader, header}
use Rattle.tko_runs.specs.Schedules.{commands_of, plan_behind, plan_in, plan_of, reads}
use Rattle.tko_runs.specs.Versions.{header_lines, layout_of}

pub reads-long : (text : List ℕ) → 1048576 < length text → reads text ≡ Err (fault.Line 0)
unfolding reads
reads-long text long = cond-true _ _ _ (lt-ltb 1048576 (length text) long)

reads-short : (text : List ℕ) → length text ≤ 1048576 → reads text ≡ plan_in (header (lines_of text)) (lines_of text)
unfolding reads
reads-short text short = cond-false _ _ _ (le-ltb 1048576 (length text) short)

pub reads-header : (text : List ℕ) (told : ScheduleFault) → length text ≤ 1048576
    → header (lines_of text) ≡ Err told → reads text ≡ Err told
reads-header text told short bad = reads-short text short ∙ ap (λ h. plan_in h (lines_of text)) bad

-- the rest of a text, after the lines of its header
module _ (text rest : List ℕ) (head : ScheduleHeader) where
  abbrev before : ℕ
  before = header_lines head.version

  reads-behind : length text ≤ 1048576 → header (lines_of text) ≡ Ok head → lines_of rest ≡ drop before (lines_of text)
      → reads text ≡ plan_behind head (commands_of before (lines_of rest))
  reads-behind short good behind =
      reads-short text short
      ∙ ap (λ h. plan_in h (lines_of text)) good
      ∙ ap (λ lines. plan_behind head (commands_of before lines)) (sym behind)

  pub reads-commands : (told : ScheduleFault) → length text ≤ 1048576
      → header (lines_of text) ≡ Ok head → lines_of rest ≡ drop before (lines_of text)
      → commands_of before (lines_of rest) ≡ Err told → reads text ≡ Err told
  reads-commands told short good behind bad = reads-behind short good behind ∙ ap (plan_behind head) bad

  pub reads-plan : (commands : List Command) → length text ≤ 1048576
      → header (lines_of text) ≡ Ok head → lines_of rest ≡ drop before (lines_of text)
      → commands_of before (lines_of rest) ≡ Ok commands
      → reads text ≡ plan_of (first_fault_in (layout_of head.version) head.settings) head commands
  reads-plan commands short good behind all = reads-behind short good behind ∙ ap (plan_behind head) all
