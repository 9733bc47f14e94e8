-- What a command did that was done, with the text of its configuration's file if its options name
-- one.
use Rattle.std.specs.Prelude.{ℕ, List, Option}
use Rattle.tko_io.specs.declared.io.Inlet.{Ghosts as InletGhosts}
use Rattle.tko_io.specs.declared.io.Outlet.{Ghosts as OutletGhosts}
use Rattle.tko_options.specs.declared.check_options.CheckOptions.{CheckOptions}
use Rattle.tko_options.specs.declared.dry_options.DryOptions.{DryOptions}
use Rattle.tko_commands.specs.Checks.{HasChecked}
use Rattle.tko_commands.specs.DryRuns.{IsDry}
use Rattle.tko_commands.specs.Reasons.{IsLoadedCheck, IsLoadedDry}

-- a dry run of these options
pub record HasDried {I O : Type 0} (inlet : InletGhosts I) (outlet : OutletGhosts O)
    (options : DryOptions) (old new : I × O) : Type 0 where
  pub loaded : DryOptions
  pub text : IsLoadedDry options loaded
  pub dry : IsDry inlet outlet loaded old new

-- a check of these options
pub record HasCheckedAll {I F O : Type 0} (inlet : InletGhosts I) (left : F → Option (List ℕ))
    (takes : O → List ℕ → O → Type 0) (options : CheckOptions) (old new : I × O) : Type 0 where
  pub loaded : CheckOptions
  pub text : IsLoadedCheck options loaded
  pub checked : HasChecked inlet left takes loaded old new
