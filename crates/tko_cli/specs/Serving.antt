-- What `serve` writes, and why it fails.
use Rattle.std.specs.Net.Text.{socket_text}
use Rattle.std.specs.declared.net.socket_addr.SocketAddr.{SocketAddr}
use Rattle.std.specs.Prelude.{◌≡◌, ◌<◌, ◌⊎◌, ℕ, true, false, IfSome, List, Option, bytes_eq, codes, is_some, string_bytes}
use Rattle.tko_cli.specs.Announcements.{ready_text, valid_text}
use Rattle.tko_cli.specs.Planned.{IsServePlan, IsServerOf, NoPlan}
use Rattle.tko_cli.specs.Totals.{totals_text}
use Rattle.tko_commands.specs.Faults.{fault_of_setting}
use Rattle.tko_commands.specs.declared.fault.Fault.{Fault}
use Rattle.tko_commands.specs.declared.fault.Fault.TheVariants as fault
use Rattle.tko_commands.specs.declared.listen_fault.ListenFault.{ListenFault}
use Rattle.tko_commands.specs.declared.listen_fault.ListenFault.TheVariants as listen_fault
use Rattle.tko_cli.specs.declared.planned.ServePlan.{ServePlan}
use Rattle.tko_cli.specs.declared.prepared.Prepared.{Prepared}
use Rattle.tko_model.specs.Ranges.{IsWithinRanges}
use Rattle.tko_server.specs.Beside.{IsLogOf, IsMeterOf}
use Rattle.tko_server.specs.Closing.{HasServerEnded}
use Rattle.tko_server.specs.Runs.{tracker_settings}
use Rattle.tko_server.specs.declared.logging.Logging.{Logging}
use Rattle.tko_server.specs.declared.run_fault.ServerRunFault.{ServerRunFault}
use Rattle.tko_server.specs.declared.run_fault.ServerRunFault.TheVariants as server_fault
use Rattle.tko_server.specs.declared.running.Ended.{Ended}
use Rattle.tko_server.specs.declared.running.Options.{Options as Server}
use Rattle.tko_options.specs.declared.serve_options.ServeOptions.{ServeOptions}

-- the options name what to run on
pub record HasPlan (options : ServeOptions) : Type 0 where
  pub plan : ServePlan
  pub planned : IsServePlan options plan

-- the server is one that the options name
pub record IsNamed (options : ServeOptions) (server : Server) : Type 0 where
  pub plan : ServePlan
  pub planned : IsServePlan options plan
  pub open_files : Option ℕ
  pub of_plan : IsServerOf plan options open_files server

-- the log of this server, with the text of an address at which it will listen: the one that the
-- system reports, of which nothing else is known
pub record IsLogAt (server : Server) (logging : Logging) : Type 0 where
  pub address : SocketAddr
  pub log : IsLogOf (socket_text address) server logging

-- how the server serves, and what is to run beside it: an event log and metrics, each exactly where
-- the options ask for it, and of this server
pub record HasBeside (options : ServeOptions) (prepared : Prepared) : Type 0 where
  pub mode : prepared.mode ≡ options.mode
  pub logs : is_some prepared.logging ≡ bytes_eq (string_bytes options.log) (codes "stderr")
  pub log_of : IfSome prepared.logging (IsLogAt prepared.server)
  pub meters : is_some prepared.metering ≡ is_some options.metrics
  pub meter_of : IfSome prepared.metering (IsMeterOf prepared.server)

-- this server ran to its end: `ready` went out, and then the lines of its totals
pub record HasTotals {O : Type 0} (takes : O → List ℕ → O → Type 0) (server : Server)
    (from to : O) : Type 0 where
  pub ended : Ended
  pub ran : HasServerEnded server ended
  pub middle : O
  pub ready : takes from ready_text middle
  pub totals : takes middle (totals_text ended.totals.counts) to

-- a server that the options name ran to its end, and its totals went out
pub record HasServedToEnd {O : Type 0} (takes : O → List ℕ → O → Type 0) (options : ServeOptions)
    (from to : O) : Type 0 where
  pub server : Server
  pub named : IsNamed options server
  pub totals : HasTotals takes server from to

-- what a server of these options did to its end: it ran; or, where they ask for a check alone, they
-- name what to run on, and that it is valid went out and nothing else
pub data HasServedOrChecked {O : Type 0} (takes : O → List ℕ → O → Type 0) (options : ServeOptions)
    (from to : O) : Type 0 where
  RanToEnd : options.only_check ≡ false → HasServedToEnd takes options from to
      → HasServedOrChecked takes options from to
  OnlyChecked : options.only_check ≡ true → HasPlan options → takes from valid_text to
      → HasServedOrChecked takes options from to

-- no setting of the server is out of its range
abbrev pub IsRunnable : Prepared → Type 0
IsRunnable prepared = IsWithinRanges (tracker_settings prepared.server)

-- which fault of the program the server's is
abbrev pub fault_of_server : ServerRunFault → Fault
fault_of_server (server_fault.Settings name) = fault_of_setting name
fault_of_server server_fault.Memory = fault.Memory
fault_of_server server_fault.Announce = fault.Write
fault_of_server server_fault.Accept = fault.Accept

-- a server that the options name, or a check of them, ended by a fault: the outlet failed, or
-- `ready` went out and nothing else, or nothing at all
pub data HasServeFailed {O : Type 0} (takes : O → List ℕ → O → Type 0) (failures : O → ℕ)
    (from to : O) : Type 0 where
  NotWritten : failures from < failures to → HasServeFailed takes failures from to
  Ready : takes from ready_text to → HasServeFailed takes failures from to
  NotReady : to ≡ from → HasServeFailed takes failures from to

-- nothing was noted, or a server that the options name failed, and this was noted of it
pub data IsSilentOrNoted {O F : Type 0} (takes : O → List ℕ → O → Type 0) (failures : O → ℕ)
    (is_noted : F → F → Type 0) (from to : O) (old new : F) : Type 0 where
  Silent : new ≡ old → IsSilentOrNoted takes failures is_noted from to old new
  WithNotes : HasServeFailed takes failures from to → is_noted old new
      → IsSilentOrNoted takes failures is_noted from to old new

-- a text is no address
abbrev pub IsNoAddress : ListenFault → Type 0
IsNoAddress listen_fault.NoAddress = Unit {0}
IsNoAddress (listen_fault.System words) = ⊥

-- the system refuses an address
abbrev pub IsAddressRefused : ListenFault → Type 0
IsAddressRefused (listen_fault.System words) = Unit {0}
IsAddressRefused listen_fault.NoAddress = ⊥

-- a fault of the configuration or of an option, which comes before anything is noted, and of which
-- a line of its own says why
abbrev pub IsOfOptions : Fault → Type 0
IsOfOptions (fault.Config cause) = Unit {0}
IsOfOptions (fault.Settings outside) = Unit {0}
IsOfOptions (fault.Delays delays) = Unit {0}
IsOfOptions (fault.Listen cause) = IsNoAddress cause
IsOfOptions (fault.Metrics cause) = IsNoAddress cause
IsOfOptions other = ⊥

-- a fault of the system where the server is to listen, which comes after the notes, and of which a
-- line of its own says why
abbrev pub IsOfSystem : Fault → Type 0
IsOfSystem (fault.Listen cause) = IsAddressRefused cause
IsOfSystem (fault.Metrics cause) = IsAddressRefused cause
IsOfSystem other = ⊥

-- the system refuses the address, or memory ran out
abbrev pub HasNoListener : Fault → Type 0
HasNoListener (fault.Listen cause) = IsAddressRefused cause
HasNoListener fault.Memory = Unit {0}
HasNoListener other = ⊥

-- the options ask for metrics at an address that the system refuses
pub record IsRefusedMetrics (options : ServeOptions) (cause : ListenFault) : Type 0 where
  pub asked : is_some options.metrics ≡ true
  pub refused : IsAddressRefused cause

-- the options ask for metrics at an address that the system refuses, or memory ran out
abbrev pub HasNoMetrics : ServeOptions → Fault → Type 0
HasNoMetrics options (fault.Metrics cause) = IsRefusedMetrics options cause
HasNoMetrics options fault.Memory = Unit {0}
HasNoMetrics options _ = ⊥

-- why nothing was opened: the system refuses the address of the clients, or that of the metrics, or
-- memory ran out
abbrev pub HasNotOpened : ServeOptions → Fault → Type 0
HasNotOpened options (fault.Listen cause) = IsAddressRefused cause
HasNotOpened options (fault.Metrics cause) = IsRefusedMetrics options cause
HasNotOpened options fault.Memory = Unit {0}
HasNotOpened options _ = ⊥

-- the options name what to run on, and that was to run
pub record IsToRun (options : ServeOptions) : Type 0 where
  pub plan : HasPlan options
  pub runs : options.only_check ≡ false

-- `ready` went out and nothing else
pub record IsOnlyReady {O : Type 0} (takes : O → List ℕ → O → Type 0) (options : ServeOptions)
    (from to : O) : Type 0 where
  pub plan : IsToRun options
  pub ready : takes from ready_text to

-- why the totals were not written: the outlet failed, or memory ran out, and then nothing was
abbrev pub TotalsFail : {O : Type 0} → (O → ℕ) → O → O → Fault → Type 0
TotalsFail failures from to fault.Write = failures from < failures to
TotalsFail failures from to fault.Memory = to ≡ from
TotalsFail failures from to _ = ⊥

module _ {O : Type 0} (takes : O → List ℕ → O → Type 0) (failures : O → ℕ) where
  -- why a server that was ready to run fails: the outlet failed; accepting failed after `ready`,
  -- and then nothing else went out; or memory ran out, and then `ready` went out or nothing
  abbrev pub PreparedFails : O → O → Fault → Type 0
  PreparedFails from to fault.Write = failures from < failures to
  PreparedFails from to fault.Accept = takes from ready_text to
  PreparedFails from to fault.Memory = (to ≡ from) ⊎ takes from ready_text to
  PreparedFails from to _ = ⊥

  -- why a server that the options name fails: the system refuses an address, and then nothing was
  -- written, or as one that was ready to run does
  abbrev pub RunFails : ServeOptions → O → O → Fault → Type 0
  RunFails options from to (fault.Listen cause) = IsAddressRefused cause × (to ≡ from)
  RunFails options from to (fault.Metrics cause) = IsRefusedMetrics options cause × (to ≡ from)
  RunFails options from to reason = PreparedFails from to reason

  -- why it fails: the options name nothing to run on, or the system refuses an address, and then
  -- nothing was written; the outlet failed; accepting failed after `ready`; or memory ran out, and
  -- then `ready` went out or nothing. A check alone fails as long as there is nothing to run on, or
  -- by the outlet or by memory.
  abbrev pub ServeFails : ServeOptions → O → O → Fault → Type 0
  ServeFails options from to (fault.Listen cause) =
      (NoPlan options (fault.Listen cause) ⊎ (IsToRun options × IsAddressRefused cause))
      × (to ≡ from)
  ServeFails options from to (fault.Metrics cause) =
      (NoPlan options (fault.Metrics cause) ⊎ (IsToRun options × IsRefusedMetrics options cause))
      × (to ≡ from)
  ServeFails options from to fault.Write = failures from < failures to
  ServeFails options from to fault.Accept = IsOnlyReady takes options from to
  ServeFails options from to fault.Memory = (to ≡ from) ⊎ IsOnlyReady takes options from to
  ServeFails options from to reason = NoPlan options reason × (to ≡ from)
