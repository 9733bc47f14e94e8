-- What `check --connect` writes, and why it fails.
use Rattle.std.specs.Prelude.{◌≡◌, ◌<◌, ℕ, Bool, List, Option, string_bytes}
use Rattle.std.specs.List.{list_all}
use Rattle.tko_io.specs.declared.io.Inlet.{Ghosts as InletGhosts}
use Rattle.tko_io.specs.declared.io.Outlet.{Ghosts as OutletGhosts}
use Rattle.tko_pools.specs.Configs.{Configuration, Means}
use Rattle.tko_options.specs.declared.check_options.CheckOptions.{CheckOptions}
use Rattle.tko_commands.specs.Checks.{CheckFails, HasChecked, IsRefusedText}
use Rattle.tko_commands.specs.Reasons.{IsFileFault, IsLoadedCheck}
use Rattle.tko_commands.specs.declared.fault.Fault.{Fault}
use Rattle.tko_commands.specs.declared.fault.Fault.TheVariants as fault
use Rattle.tko_reach.specs.declared.reach.Reached.{Reached}
use Rattle.tko_reach.specs.Kinds.{has_version}
use Rattle.tko_reach.specs.Printing.{reaches_text}
use Rattle.tko_reach.specs.Reaching.{AreReached}

-- each server of the configuration of these options was asked, and what came of them went out;
-- each gave its version, or one did not
pub record HasPrintedServers {O : Type 0} (takes : O → List ℕ → O → Type 0) (options : CheckOptions)
    (is_whole : Bool) (from to : O) : Type 0 where
  pub config : Configuration
  pub means : Means (string_bytes options.config) config
  pub servers : List Reached
  pub reached : AreReached options.timeout config.addresses servers
  pub whole : is_whole ≡ list_all has_version servers
  pub went : takes from (reaches_text servers) to

-- a check of these options, and then what came of the servers
pub record HasCheckedServers {I F O : Type 0} (inlet : InletGhosts I) (left : F → Option (List ℕ))
    (takes : O → List ℕ → O → Type 0) (options : CheckOptions) (is_whole : Bool) (old new : I × O)
    : Type 0 where
  pub middle : O
  pub checked : HasChecked inlet left takes options old (new.0, middle)
  pub reached : HasPrintedServers takes options is_whole middle new.1

-- the same with the texts of the files that the options name
pub record HasAskedServers {I F O : Type 0} (inlet : InletGhosts I) (left : F → Option (List ℕ))
    (takes : O → List ℕ → O → Type 0) (options : CheckOptions) (is_whole : Bool) (old new : I × O)
    : Type 0 where
  pub loaded : CheckOptions
  pub text : IsLoadedCheck options loaded
  pub done : HasCheckedServers inlet left takes loaded is_whole old new

-- why nothing of the servers was written, or not all: the outlet failed; the text is no
-- configuration; or memory ran out, or there was none for a thread that looks names up
abbrev pub ReachFails : {O : Type 0} → (O → ℕ) → CheckOptions → O → O → Fault → Type 0
ReachFails writes options from to (fault.Config cause) =
    IsRefusedText (string_bytes options.config) cause × (to ≡ from)
ReachFails writes options from to fault.Write = writes from < writes to
ReachFails writes options from to fault.Memory = to ≡ from
ReachFails writes options from to other = ⊥

-- by this fault a check of these options and of their servers ended: the check failed, or it was
-- written and then this came
pub data ServersFail {I F O : Type 0} (inlet : InletGhosts I) (left : F → Option (List ℕ))
    (outlet : OutletGhosts O) (options : CheckOptions) (old new : I × O) (reason : Fault) : Type 0
  where
    NotChecked : CheckFails inlet.failures outlet.failures options old new reason
        → ServersFail inlet left outlet options old new reason
    NotReached : (middle : O) → HasChecked inlet left outlet.takes options old (new.0, middle)
        → ReachFails outlet.failures options middle new.1 reason
        → ServersFail inlet left outlet options old new reason

-- the same with the texts of the files that the options name, which may not be readable
pub data HasNotAskedServers {I F O : Type 0} (inlet : InletGhosts I) (left : F → Option (List ℕ))
    (outlet : OutletGhosts O) (options : CheckOptions) (old new : I × O) (reason : Fault) : Type 0
  where
    NotRead : IsFileFault reason → new ≡ old
        → HasNotAskedServers inlet left outlet options old new reason
    NotConnected : (loaded : CheckOptions) → IsLoadedCheck options loaded
        → ServersFail inlet left outlet loaded old new reason
        → HasNotAskedServers inlet left outlet options old new reason
