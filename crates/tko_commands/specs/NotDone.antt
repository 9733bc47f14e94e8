-- Why a command was not done: the file of its configuration cannot be read, and then nothing was
-- read or written, or the command failed with the text of that file.
use Rattle.std.specs.Prelude.{◌≡◌, ℕ}
use Rattle.tko_io.specs.declared.io.Inlet.{Ghosts as InletGhosts}
use Rattle.tko_io.specs.declared.io.Outlet.{Ghosts as OutletGhosts}
use Rattle.tko_options.specs.declared.check_options.CheckOptions.{CheckOptions}
use Rattle.tko_options.specs.declared.dry_options.DryOptions.{DryOptions}
use Rattle.tko_commands.specs.Checks.{CheckFails}
use Rattle.tko_commands.specs.DryRuns.{DryFails}
use Rattle.tko_commands.specs.Reasons.{IsFileFault, IsLoadedCheck, IsLoadedDry}
use Rattle.tko_commands.specs.declared.fault.Fault.{Fault}

-- by this fault a dry run of these options ended
pub data HasNotDried {I O : Type 0} (inlet : InletGhosts I) (outlet : OutletGhosts O)
    (options : DryOptions) (old new : I × O) (fault : Fault) : Type 0 where
  NoDryFile : IsFileFault fault → new ≡ old → HasNotDried inlet outlet options old new fault
  NotDried : (loaded : DryOptions) → IsLoadedDry options loaded
      → DryFails inlet outlet loaded old new fault
      → HasNotDried inlet outlet options old new fault

-- by this fault a check of these options ended
pub data HasNotChecked {I O : Type 0} (reads : I → ℕ) (writes : O → ℕ) (options : CheckOptions)
    (old new : I × O) (fault : Fault) : Type 0 where
  NoCheckFile : IsFileFault fault → new ≡ old → HasNotChecked reads writes options old new fault
  NotChecked : (loaded : CheckOptions) → IsLoadedCheck options loaded
      → CheckFails reads writes loaded old new fault
      → HasNotChecked reads writes options old new fault
